-- `lowest`: a period of 1 or more, below which there is no schedule.
-- Invariant `Most`: `most` is one, from the first k pairs.
use Rattle.free_climb.proofs.ClimbLaws.{Most}
use Rattle.free_climb.proofs.lowest.Given as goal

abbrev pub invariant-loop-k : goal.invariant-loop-k
invariant-loop-k l = Most l.list.words.now l.most l.k
