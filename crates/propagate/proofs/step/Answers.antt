-- `step`: what pair k forces is followed in the marks lent, by its flags; where nothing changes it forces no more (`pair-pass`).
use mathlib.Core.Path.{refl}
use native.Mathlib.Omega.{arith}
use Rattle.propagate.proofs.PassLaws.{pair-pass}
use Rattle.propagate.proofs.step.Goals as goal

pub returns : goal.returns
returns c =
    let a = c.args in
    pair-pass a.list.words.now a.list.registers a.scratch.now a.k (omega (arith, c.requires.0.room)) (omega (arith, a.list.usable.pairs_are))
    c.pair.ensures.same
    c.flags_at-flags.ensures
    refl
    c.settle.ensures
