-- The common period, the free period and the free schedule of a list of pairs, as definitions that compute.
use Rattle.std.specs.Prelude.{Bool, List, [], ◌∷◌, ℕ, zero, suc, ◌+◌, ◌-◌, max, set}
use Rattle.timing.specs.declared.Pair.{Pair}
use Rattle.timing.specs.Rules.{time, admissible}
use Rattle.buffers.specs.Over.{zeros}
use Rattle.search.specs.Search.{least}

-- register r raised to at least v
abbrev pub raise : ℕ → ℕ → List ℕ → List ℕ
raise r v x = set x r (max (time x r) v)

-- the capture register raised as far as setup asks, then the launch register as far as hold asks
unfoldable pub relax : ℕ → Pair → List ℕ → List ℕ
relax t p x =
    let y : List ℕ = raise p.capture (time x p.launch + p.greatest - t) x in
    raise p.launch (time y p.capture - p.least) y

-- each pair once, in the order of the list
unfoldable pub round : ℕ → List Pair → List ℕ → List ℕ
round t [] x = x
round t (p ∷ ps) x = round t ps (relax t p x)

-- so many rounds
unfoldable pub rounds : ℕ → ℕ → List Pair → List ℕ → List ℕ
rounds zero t ps x = x
rounds (suc k) t ps x = round t ps (rounds k t ps x)

-- the least schedule of n registers at period t, if there is one: n rounds from 0
unfoldable pub free_at : ℕ → ℕ → List Pair → List ℕ
free_at n t ps = rounds n t ps (zeros n)

-- there is one
unfoldable pub free_works : ℕ → ℕ → List Pair → Bool
free_works n t ps = admissible t ps (free_at n t ps)

-- 1, or the largest greatest delay if that is more
unfoldable pub common : List Pair → ℕ
common [] = 1
common (p ∷ ps) = max p.greatest (common ps)

-- the least period from 1 up with an admissible schedule
unfoldable pub free_period : ℕ → List Pair → ℕ
free_period n ps = least (λ t. free_works n t ps) 1 (common ps)

-- the schedule there in which every timing is as small as can be
unfoldable pub free_schedule : ℕ → List Pair → List ℕ
free_schedule n ps = free_at n (free_period n ps) ps
