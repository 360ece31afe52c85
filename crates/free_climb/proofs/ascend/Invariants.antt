-- `ascend`: the free period with the free schedule, or a period below which there is no schedule: a longer one, or one left undecided.
-- Invariant `Trial`: no schedule below the period.
use Rattle.free_trials.specs.Trial.{Trial}
use Rattle.free_climb.proofs.ascend.Given as goal

abbrev pub invariant-loop : goal.invariant-loop
invariant-loop l = Trial l.list.words.now l.list.pairs l.period l.x
