-- The scratch of a trial: the marks of the n registers in its first places, and from place 6n on the broken choices of the pairs,
-- four places to a pair.
use Rattle.std.specs.Prelude.{◌≡◌, Bool, true, false, List, [], ◌∷◌, ℕ, ◌+◌, ◌*◌, ◌≤◌, ◌<◌, length, get_or, take, drop, replicate}
use Rattle.timing.specs.declared.Pair.{Pair}
use Rattle.timing.specs.Limits.{per_register, per_pair, scratch_places}
use Rattle.buffers.specs.Run.{run}
use Rattle.list_format.specs.Lists.{pair_count, pair_at, pairs, UsableList}
use Rattle.split_laws.specs.Split.{Found, nothing, found, first_split}
use Rattle.split_laws.specs.Choices.{flag_at}
use Rattle.split_laws.specs.Marks.{Flagged, split_of}

-- the place from which on the flags stand
abbrev pub flags_from : ℕ → ℕ
flags_from n = per_register * n

-- the flags of a pair at period t and offset s, row by row; those of the first k pairs, one after the other
abbrev pub flags_of : ℕ → ℕ → Pair → List ℕ
flags_of t s p = flag_at t s p 0 ∷ flag_at t s p 1 ∷ flag_at t s p 2 ∷ flag_at t s p 3 ∷ []

abbrev pub flags_to : ℕ → ℕ → List ℕ → ℕ → List ℕ
flags_to t s ws = run (λ k. flags_of t s (pair_at ws k))

-- the four numbers from place `at` on
abbrev pub four_at : List ℕ → ℕ → List ℕ
four_at xs at = get_or xs at 0 ∷ get_or xs (at + 1) 0 ∷ get_or xs (at + 2) 0 ∷ get_or xs (at + 3) 0 ∷ []

-- F holds the flags of all pairs of the list, at period t and offset s
pub record Recorded (t s : ℕ) (ws F : List ℕ) : Type 0 where
  pub each : (k : ℕ) → k < pair_count ws → Flagged t s (pair_at ws k) (four_at F (per_pair * k))

-- a usable list with n registers and m pairs, and room for a trial
pub record Lent (ws : List ℕ) (n m : ℕ) (S : List ℕ) : Type 0 where
  pub list : UsableList ws n m
  pub room : scratch_places n m ≤ length S

-- the marks are blank, the flags recorded, and what lies behind them is as it was
pub record Prepared (t s : ℕ) (ws : List ℕ) (n : ℕ) (S S' : List ℕ) : Type 0 where
  pub size : length S' ≡ length S
  pub blank : take n S' ≡ replicate n 0
  pub flags : Recorded t s ws (drop (flags_from n) S')
  pub rest : drop (scratch_places n (pair_count ws)) S' ≡ drop (scratch_places n (pair_count ws)) S

-- true: the marks give the first split; false: there is none
abbrev pub chosen : Bool → List Bool → Found
chosen true c = found c
chosen false c = nothing

pub record Decided (t s : ℕ) (ws : List ℕ) (n : ℕ) (S S' : List ℕ) (r : Bool) : Type 0 where
  pub size : length S' ≡ length S
  pub rest : drop (scratch_places n (pair_count ws)) S' ≡ drop (scratch_places n (pair_count ws)) S
  pub first : first_split n t s (pairs ws) ≡ chosen r (split_of (take n S'))
