-- `finish`: the free period with the free schedule.
-- Invariant `Trial`: no schedule below the period. What falls: common period + 1 - period.
use Prim.Native.Nat.{◌+◌, ◌-◌}
use Rattle.list_format.specs.Lists.{pairs}
use Rattle.free_laws.specs.Free.{common}
use Rattle.free_trials.specs.Trial.{Trial}
use Rattle.free_climb.proofs.finish.Given as goal

abbrev pub invariant-loop-period : goal.invariant-loop-period
invariant-loop-period l = Trial l.list.words.now l.list.pairs l.period l.x

abbrev pub decreases-loop-period : goal.decreases-loop-period
decreases-loop-period l = common (pairs l.list.words.now) + 1 - l.period
