-- `begin`: every capture is raised, each stays a reach, and below the longest period seen no split works.
-- Invariant `Guided`.
use Rattle.reach.specs.Settling.{Guided}
use Rattle.reach.proofs.Listed.begin.Given as goal

abbrev pub invariant-loop-k : goal.invariant-loop-k
invariant-loop-k l = Guided l.self.list.words.now l.self.list.pairs l.self.top l.reach l.most
