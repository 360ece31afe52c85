-- `sweep`: a pass over all pairs, up or down the list; settled where no pair forces more.
-- Invariant: a `Pass` for which the pairs at the first i places force no more (`MarksClosedTo`).
use mathlib.Core.Path.{◌≡◌, ◌∙◌}
use native.Mathlib.Omega.{arith}
use Rattle.list_format.specs.Lists.{pair_count}
use Rattle.split_laws.proofs.MarkLaws.{max-joined}
use Rattle.propagate.proofs.PassLaws.{sweep-turn, sweep-end}
use Rattle.propagate.proofs.sweep.Goals as goal

pub loop-i-preserved : goal.loop-i-preserved
loop-i-preserved c =
    let a = c.args in
    let at = rw c.requires.list.pairs_are at c.place.ensures.0 in
    let all = c.max-all.ensures ∙ max-joined c.loop-i.all c.step-o.result in
    sweep-turn a.list.words.now a.list.registers a.down c.loop-i.i at all c.loop-i.invariant c.step-o.ensures

pub returns : goal.returns
returns c =
    let l = c.loop-i in
    let a = c.args in
    let e : l.i ≡ pair_count a.list.words.now = omega (arith, c.requires.list.pairs_are) in
    sweep-end a.list.words.now a.list.registers a.down (rw e at l.invariant)
