-- `come_down`: no register is raised past times that meet the rules.
-- Invariant `Risen`: so it is from the times at the start to those now.
use Rattle.free_rounds.proofs.RoundLaws.{risen-then}
use Rattle.free_carry.proofs.Met.come_down.Goals as goal

pub loop-i-preserved : goal.loop-i-preserved
loop-i-preserved c = risen-then c.loop-i.invariant c.apply.ensures
