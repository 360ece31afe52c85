-- Splits: a choice of early or late for each register, which splits work, and the first that does.
use Rattle.std.specs.Prelude.{Bool, true, false, not, List, [], ◌∷◌, ◌++◌, map, ℕ, zero, suc}
use Rattle.timing.specs.declared.Pair.{Pair}
use Rattle.timing.specs.Rules.{pair_met, admissible}

-- a register's choice: false is early, which is time 0; true is late, which is the offset s
abbrev pub time_of : ℕ → Bool → ℕ
time_of s false = 0
time_of s true = s

-- a split is a choice for each register; this is its schedule at the offset s
abbrev pub timings : ℕ → List Bool → List ℕ
timings s c = map (time_of s) c

-- a pair with choice a at its launch and b at its capture meets both rules at period t and offset s
abbrev pub meets : ℕ → ℕ → Pair → Bool → Bool → Bool
meets t s p a b = pair_met p t (time_of s a) (time_of s b)

-- the choice breaks a rule
abbrev pub broken : ℕ → ℕ → Pair → Bool → Bool → Bool
broken t s p a b = not (meets t s p a b)

-- a split works where its schedule is admissible
unfoldable pub works : ℕ → ℕ → List Pair → List Bool → Bool
works t s ps c = admissible t ps (timings s c)

-- every split of n registers, in register order, early before late
unfoldable pub splits : ℕ → List (List Bool)
splits zero = [] ∷ []
splits (suc n) = map (λ (c : List Bool). false ∷ c) (splits n) ++ map (λ (c : List Bool). true ∷ c) (splits n)

pub data Found : Type 0 where
  nothing : Found
  found : List Bool → Found

-- c if it passes, else what the rest gives
abbrev pub or_else : Bool → List Bool → Found → Found
or_else true c rest = found c
or_else false c rest = rest

-- the first of a run of splits that passes a test
unfoldable pub first_of : (List Bool → Bool) → List (List Bool) → Found
first_of f [] = nothing
first_of f (c ∷ cs) = or_else (f c) c (first_of f cs)

-- the first split of n registers that works
unfoldable pub first_split : ℕ → ℕ → ℕ → List Pair → Found
first_split n t s ps = first_of (works t s ps) (splits n)

abbrev pub is_found : Found → Bool
is_found nothing = false
is_found (found c) = true

-- some split of n registers works at period t and offset s
unfoldable pub split_works : ℕ → ℕ → ℕ → List Pair → Bool
split_works n t s ps = is_found (first_split n t s ps)
