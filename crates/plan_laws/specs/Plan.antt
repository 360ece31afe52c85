-- The two-timing period, its offset and its split, as definitions that compute.
use Rattle.std.specs.Prelude.{Bool, List, [], ℕ, ◌-◌}
use Rattle.timing.specs.declared.Pair.{Pair}
use Rattle.search.specs.Search.{least}
use Rattle.free_laws.specs.Free.{common}
use Rattle.split_laws.specs.Split.{Found, nothing, found, timings, first_split, split_works}

-- some split works at period t with the offset that brings it up to the common period
unfoldable pub two_works : ℕ → List Pair → ℕ → Bool
two_works n ps t = split_works n t (common ps - t) ps

-- the two-timing period: the least from 1 up for which one does
unfoldable pub two_period : ℕ → List Pair → ℕ
two_period n ps = least (two_works n ps) 1 (common ps)

-- its offset
unfoldable pub two_offset : ℕ → List Pair → ℕ
two_offset n ps = common ps - two_period n ps

-- the first split for the two
unfoldable pub two_split : ℕ → List Pair → Found
two_split n ps = first_split n (two_period n ps) (two_offset n ps) ps

-- the timings of a split, if there is one
abbrev pub timings_of : ℕ → Found → List ℕ
timings_of s nothing = []
timings_of s (found c) = timings s c

unfoldable pub two_timings : ℕ → List Pair → List ℕ
two_timings n ps = timings_of (two_offset n ps) (two_split n ps)
