-- `visit`: no register is raised past times that meet the rules.
-- Invariant `Risen`: so it is from the times at the start to those now.
use Rattle.free_rounds.proofs.RoundLaws.{risen-then}
use Rattle.free_line.proofs.Line.visit.Goals as goal

pub loop-rule-preserved : goal.loop-rule-preserved
loop-rule-preserved c =
    risen-then c.loop-rule.invariant c.apply-raised.ensures
