-- `lowest`: a period of 1 or more, below which there is no schedule.
-- Invariant `Most`: `most` is one, from the first k pairs.
use native.Mathlib.Omega.{arith}
use Rattle.free_climb.proofs.ClimbLaws.{most-turn}
use Rattle.free_climb.proofs.lowest.Goals as goal

pub loop-k-preserved : goal.loop-k-preserved
loop-k-preserved c =
    most-turn c.loop-k.invariant (omega arith) c.pair-p.ensures c.alone.ensures c.larger-most.ensures
