-- `settle`: no register is raised past times that meet the rules, and below what is told there is no schedule.
-- Invariant `Risen`: so it is from the times at the start to those now.
use Rattle.timing.specs.Limits.{max_timing}
use Rattle.list_format.specs.Lists.{pairs}
use Rattle.free_laws.specs.Constraint.{constraints}
use Rattle.free_laws.specs.Raise.{Risen}
use Rattle.free_line.proofs.settle.Given as goal

abbrev pub invariant-loop : goal.invariant-loop
invariant-loop l =
    Risen max_timing (constraints l.period (pairs l.list.words.now)) l.initial.x l.x
