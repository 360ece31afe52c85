-- `seed_pair`: the capture of pair k is a root, if early-early is broken.
use native.Mathlib.Omega.{arith}
use Rattle.forced_late.proofs.GrowLaws.{rooted-marked}
use Rattle.forced_late.proofs.seed_pair.Goals as goal

pub returns-then-scratch-list-eq1 : goal.returns-then-scratch-list-eq1
returns-then-scratch-list-eq1 c =
    rooted-marked c.args.list.words.now c.args.list.registers c.args.scratch.now c.requires.0 c.args.k
    (omega (arith, c.requires.1, c.requires.0.growing.lent.list.pairs_are))
    (rw c.step-step.ensures at c.if-scratch-list-eq1.true) (rw (c.step-step.ensures, c.pair-p.ensures.same) at c.mark.ensures)
