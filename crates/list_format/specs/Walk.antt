-- The walk of a list's pairs by a reader: what it has come to, where it goes on, and what it meets on its way.
use Rattle.std.specs.Prelude.{ℕ, zero, suc, ◌+◌, cond, List, [], ◌∷◌, ltb, Option, Some, None}
use Rattle.timing.specs.declared.Pair.{Pair}
use Rattle.list_format.specs.Lists.{pair_count, written_at}

-- pair k as it is written, and from m on the end
abbrev pub next_at : List ℕ → ℕ → Option Pair
next_at ws k = cond (ltb k (pair_count ws)) (Some (written_at ws k)) None

-- the place after k; the end stays the end
abbrev pub place_after : List ℕ → ℕ → ℕ
place_after ws k = cond (ltb k (pair_count ws)) (k + 1) k

unfoldable pub before : Option Pair → List Pair → List Pair
before (Some p) ps = p ∷ ps
before None ps = []

-- the pairs that a reader at k meets in so many turns
unfoldable pub walk : List ℕ → ℕ → ℕ → List Pair
walk ws k zero = []
walk ws k (suc turns) = before (next_at ws k) (walk ws (place_after ws k) turns)
