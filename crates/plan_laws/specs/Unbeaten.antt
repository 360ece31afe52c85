-- What is claimed of a plan against every rival: any split, any offset, whole or fractional; any timing per register.
use Rattle.std.specs.Prelude.{Bool, true, false, List, ◌≡◌, ℕ, ◌+◌, ◌*◌, ◌≤◌, ◌<◌, length, get_or}
use Rattle.timing.specs.declared.Pair.{Pair}
use Rattle.timing.specs.Rules.{admissible, Each}
use Rattle.free_laws.specs.Unbeaten.{UnbeatenFree}
use Rattle.split_laws.specs.Split.{time_of, timings, found, first_split}

-- the choice of a split for register r
abbrev pub choice_of : List Bool → ℕ → Bool
choice_of c r = get_or c r false

-- both rules of a pair multiplied by u: period t / u, offset s / u
pub record MeetsOver (u t s : ℕ) (c : List Bool) (p : Pair) : Type 0 where
  pub setup : time_of s (choice_of c p.launch) + p.greatest * u ≤ time_of s (choice_of c p.capture) + t
  pub hold : time_of s (choice_of c p.capture) ≤ time_of s (choice_of c p.launch) + p.least * u

-- the split c works at period t / u and offset s / u
abbrev pub WorksOver : ℕ → ℕ → ℕ → List Bool → List Pair → Type 0
WorksOver u t s c = Each (MeetsOver u t s c)

-- a rival: a split of n registers at the whole period t and the offset p / q
pub record RivalSplit (n : ℕ) (ps : List Pair) (t p q : ℕ) (c : List Bool) : Type 0 where
  pub size : length c ≡ n
  pub proper : 0 < q
  pub works : WorksOver q (t * q) p c ps

-- of n registers and the pairs ps: the two-timing period `two`, its offset and the timings c
pub record UnbeatenTwo (n : ℕ) (ps : List Pair) (two offset : ℕ) (c : List ℕ) : Type 0 where
  -- a period from 1 up
  pub from_one : 1 ≤ two
  -- a timing for each register
  pub size : length c ≡ n
  -- every rule is met
  pub meets : admissible two ps c ≡ true
  -- the timings are those of the first split
  pub split : List Bool
  pub first : first_split n two offset ps ≡ found split
  pub shown : c ≡ timings offset split
  -- no split with any offset has a shorter period, nor at this period a smaller offset
  pub best : (t p q : ℕ) (d : List Bool) → 1 ≤ t → RivalSplit n ps t p q d → (two ≤ t) × (t ≡ two → offset * q ≤ p)

-- the whole plan: its three periods, the offset, the free timings f and the split's timings c
pub record Unbeaten (n : ℕ) (ps : List Pair) (common free two offset : ℕ) (f c : List ℕ) : Type 0 where
  pub freely : UnbeatenFree n ps free f
  pub split : UnbeatenTwo n ps two offset c
  -- more freedom never lengthens the period
  pub free_first : free ≤ two
  pub common_last : two ≤ common
