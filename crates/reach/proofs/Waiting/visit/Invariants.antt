-- `visit`: the register across each end at register r is raised, each stays a reach, and below the longest period seen no split works.
-- Invariant `Guided`.
use Rattle.reach.specs.Settling.{Guided}
use Rattle.reach.proofs.Waiting.visit.Given as goal

abbrev pub invariant-loop-end : goal.invariant-loop-end
invariant-loop-end l = Guided l.listed.list.words.now l.listed.list.pairs l.listed.top l.reach l.self.most
