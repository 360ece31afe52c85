-- `follow`: registers are taken from the heap and visited, each stays a reach, and below the longest period seen no split works.
-- Invariant `Guided`.
use Rattle.reach.specs.Settling.{Guided}
use Rattle.reach.proofs.Waiting.follow.Given as goal

abbrev pub invariant-loop : goal.invariant-loop
invariant-loop l = Guided l.listed.list.words.now l.listed.list.pairs l.listed.top l.reach l.self.most
