-- `carry`: no register is raised past times that meet the rules, and below what is told there is no schedule.
-- Invariant `Risen` from the times at the start to those now, and `Bound` of the longest period so far.
use Rattle.timing.specs.Limits.{max_timing}
use Rattle.list_format.specs.Lists.{pairs}
use Rattle.free_laws.specs.Constraint.{constraints, Bound}
use Rattle.free_laws.specs.Raise.{Risen}
use Rattle.free_carry.proofs.carry.Given as goal

abbrev pub invariant-loop-r : goal.invariant-loop-r
invariant-loop-r l =
    Risen max_timing (constraints l.period (pairs l.list.words.now)) l.initial.x l.x × Bound (pairs l.list.words.now) l.most
