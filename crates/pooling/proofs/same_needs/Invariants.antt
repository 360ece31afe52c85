-- Invariant: `same` says whether the first r registers have the same needs.
use Rattle.std.proofs.Common.{◌≡◌}
use Rattle.pooling.specs.Pool.{same_needs}
use Rattle.pooling.proofs.same_needs.Given as goal

abbrev pub invariant-loop-r : goal.invariant-loop-r
invariant-loop-r l = l.same ≡ same_needs l.first.words.now l.second.words.now l.r
