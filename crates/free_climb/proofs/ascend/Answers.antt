-- `ascend`: the free period with the free schedule, or a period below which there is no schedule: a longer one, or one left undecided.
-- Invariant `Trial`: no schedule below the period.
use Rattle.free_climb.proofs.ClimbLaws.{ascended-settled, trial-settled}
use Rattle.free_climb.proofs.ascend.Goals as goal

pub returns-then-next-period : goal.returns-then-next-period
returns-then-next-period c =
    ascended-settled (trial-settled c.loop.invariant c.attempt.auto.x c.in-Some.ensures c.if-next-period.true)
