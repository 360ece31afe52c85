-- `walked`: the smallest margin of all pairs, and the first pair that breaks a rule.
-- Invariant: the walk has come to k pairs (`Walked`), one at the least.
use native.Mathlib.Omega.{arith}
use Rattle.checker.proofs.MarginLaws.{walked_start, walked-turn}
use Rattle.checker.proofs.walked.Goals as goal

pub loop-k-init : goal.loop-k-init
loop-k-init c =
    (omega arith, walked_start (rw c.args.list.usable.pairs_are at c.requires.some) c.smaller_margin.ensures)

pub loop-k-preserved : goal.loop-k-preserved
loop-k-preserved c = (
  omega arith,
  rw c.walked_on-walk.ensures (walked-turn c.loop-k.invariant.1 (omega (arith, c.loop-k.invariant.0))
      (omega (arith, c.loop-k-test.true, c.args.list.usable.pairs_are)) c.smaller_margin-in-loop-k.ensures),
)
