-- `come_down`: no register is raised past times that meet the rules.
-- Invariant `Risen`: so it is from the times at the start to those now.
use Rattle.timing.specs.Limits.{max_timing}
use Rattle.list_format.specs.Lists.{pairs}
use Rattle.free_laws.specs.Constraint.{constraints}
use Rattle.free_laws.specs.Raise.{Risen}
use Rattle.free_carry.proofs.Met.come_down.Given as goal

abbrev pub invariant-loop-i : goal.invariant-loop-i
invariant-loop-i l = Risen max_timing (constraints l.period (pairs l.list.words.now)) l.initial.x l.x
