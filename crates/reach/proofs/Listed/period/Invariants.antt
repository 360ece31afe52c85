-- `period`: the longest period that a pair asks for, or 1.
-- Invariant `Asked`: that of the first k pairs, with the pairs from k on, gives the period.
use Rattle.reach.proofs.SweepLaws.{Asked}
use Rattle.reach.proofs.Listed.period.Given as goal

abbrev pub invariant-loop-k : goal.invariant-loop-k
invariant-loop-k l = Asked l.self.list.words.now l.reach l.most l.k
