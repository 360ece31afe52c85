-- `finish`: the free period with the free schedule.
-- Invariant `Trial`: no schedule below the period. What falls: common period + 1 - period.
use native.Mathlib.Omega.{arith}
use Rattle.free_laws.proofs.Bound.{bound-common}
use Rattle.free_climb.proofs.ClimbLaws.{trial-settled}
use Rattle.free_climb.proofs.finish.Goals as goal

pub loop-period-smaller : goal.loop-period-smaller
loop-period-smaller c =
    omega (arith, bound-common c.steady-next.ensures.bound, c.steady-next.ensures.onward, c.if-next-period.false)

pub returns-then-next-period : goal.returns-then-next-period
returns-then-next-period c =
    trial-settled c.loop-period.invariant c.steady-next.auto.x c.steady-next.ensures c.if-next-period.true
