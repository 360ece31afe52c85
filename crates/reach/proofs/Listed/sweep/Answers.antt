-- `sweep`: every pair once; where no reach rose, no pair raises one further.
-- Invariant `Sweeping`: the same of the pairs at the first i places.
use Rattle.reach.proofs.SweepLaws.{sweeping-end}
use Rattle.reach.proofs.Listed.sweep.Goals as goal

pub returns : goal.returns
returns c = sweeping-end c.requires c.loop-i.invariant c.loop-i-test.false
