-- `first_broken`: the first pair that breaks a rule, or the count of pairs.
-- Invariant `Looked`: the pairs before k meet both rules.
use Rattle.checker.proofs.CheckLaws.{Looked}
use Rattle.checker.proofs.first_broken.Given as goal

abbrev pub invariant-loop-k : goal.invariant-loop-k
invariant-loop-k l = Looked l.list.words.now l.period l.timings l.k
