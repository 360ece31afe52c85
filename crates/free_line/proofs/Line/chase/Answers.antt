-- `chase`: no register is raised past times that meet the rules.
-- Invariant `Risen`: so it is from the times at the start to those now.
use Rattle.free_rounds.proofs.RoundLaws.{risen-then}
use Rattle.free_line.proofs.Line.chase.Goals as goal

pub loop-preserved : goal.loop-preserved
loop-preserved c =
    risen-then c.loop.invariant c.visit.ensures
