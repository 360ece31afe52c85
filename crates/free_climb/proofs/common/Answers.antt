-- `common`: the largest greatest delay, or 1.
-- Invariant `Largest`: that of the first k pairs, with the pairs from k on, gives the common period.
use native.Mathlib.Omega.{arith}
use Rattle.free_climb.proofs.ClimbLaws.{largest-start, largest-turn, largest-end}
use Rattle.free_climb.proofs.common.Goals as goal

pub loop-k-init : goal.loop-k-init
loop-k-init c = largest-start

pub loop-k-preserved : goal.loop-k-preserved
loop-k-preserved c = largest-turn c.loop-k.invariant (omega arith) c.pair-p.ensures c.larger-most.ensures

pub returns : goal.returns
returns c = largest-end c.loop-k.invariant (omega arith)
