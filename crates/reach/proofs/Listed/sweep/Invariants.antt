-- `sweep`: every pair once; where no reach rose, no pair raises one further.
-- Invariant `Sweeping`: the same of the pairs at the first i places.
use Rattle.reach.proofs.SweepLaws.{Sweeping}
use Rattle.reach.proofs.Listed.sweep.Given as goal

abbrev pub invariant-loop-i : goal.invariant-loop-i
invariant-loop-i l = Sweeping l.self.list.words.now l.self.list.pairs l.self.top l.down l.initial.reach l.reach l.moved l.i
