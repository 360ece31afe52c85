-- `common`: the largest greatest delay, or 1.
-- Invariant `Largest`: that of the first k pairs, with the pairs from k on, gives the common period.
use Rattle.free_climb.proofs.ClimbLaws.{Largest}
use Rattle.free_climb.proofs.common.Given as goal

abbrev pub invariant-loop-k : goal.invariant-loop-k
invariant-loop-k l = Largest l.list.words.now l.most l.k
