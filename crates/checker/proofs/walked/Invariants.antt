-- `walked`: the smallest margin of all pairs, and the first pair that breaks a rule.
-- Invariant: the walk has come to k pairs (`Walked`), one at the least.
use Prim.Native.Nat.{◌≤◌}
use Rattle.checker.specs.Check.{Walked}
use Rattle.checker.proofs.walked.Given as goal

abbrev pub invariant-loop-k : goal.invariant-loop-k
invariant-loop-k l = (1 ≤ l.k) × Walked l.list.words.now l.period l.timings l.k l.walk
