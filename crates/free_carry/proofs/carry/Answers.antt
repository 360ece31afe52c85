-- `carry`: no register is raised past times that meet the rules, and below what is told there is no schedule.
-- Invariant `Risen` from the times at the start to those now, and `Bound` of the longest period so far.
use Rattle.free_laws.proofs.Bound.{bound-max}
use Rattle.free_rounds.proofs.RoundLaws.{risen-then}
use Rattle.free_carry.proofs.carry.Goals as goal

pub loop-r-preserved : goal.loop-r-preserved
loop-r-preserved c =
    (risen-then c.loop-r.invariant.0 c.branch-longer.ensures.risen, rw c.larger-most.ensures (bound-max c.loop-r.invariant.1 c.branch-longer.ensures.bound))
