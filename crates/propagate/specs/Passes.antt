-- What a pass over the pairs promises. It speaks of all splits that work: each that agreed with the marks still does,
-- and a clash says that no split that works agrees with the marks.
use Rattle.std.specs.Prelude.{◌≡◌, Bool, true, false, List, ℕ, ◌<◌, length, take, drop}
use Rattle.list_format.specs.Lists.{pair_count, pair_at, pairs}
use Rattle.split_laws.specs.declared.Change.{Change}
use Rattle.split_laws.specs.Split.{works}
use Rattle.split_laws.specs.Marks.{Agrees, Kept, MarkStep, MarksClosed}
use Rattle.propagate.specs.Store.{flags_from, Recorded}

-- the split works at a period and an offset whose flags stand in F
pub record Working (ws F : List ℕ) (c : List Bool) : Type 0 where
  pub period : ℕ
  pub offset : ℕ
  pub flags : Recorded period offset ws F
  pub works : works period offset (pairs ws) c ≡ true

-- a pass over some pairs: C is what it was to bring about in the marks, given the flags
pub record Pass (ws : List ℕ) (n : ℕ) (C : List ℕ → List ℕ → Type 0) (S S' : List ℕ) (o : Change) : Type 0 where
  pub size : length S' ≡ length S
  pub rest : drop n S' ≡ drop n S
  pub step : MarkStep (Working ws (drop (flags_from n) S)) (C (drop (flags_from n) S)) (take n S) (take n S') o

-- pair k forces nothing more
abbrev pub PairClosed : List ℕ → ℕ → List ℕ → List ℕ → Type 0
PairClosed ws k F M = (t s : ℕ) → Recorded t s ws F → MarksClosed t s (pair_at ws k) M

-- no pair forces more
abbrev pub AllClosed : List ℕ → List ℕ → List ℕ → Type 0
AllClosed ws F M = (k : ℕ) → k < pair_count ws → PairClosed ws k F M

-- ---- passes until nothing changes

-- what is kept from pass to pass
pub record Carried (ws : List ℕ) (n : ℕ) (S S' : List ℕ) : Type 0 where
  pub size : length S' ≡ length S
  pub rest : drop n S' ≡ drop n S
  pub kept : Kept (Working ws (drop (flags_from n) S)) (take n S) (take n S')

abbrev pub Said : Bool → List ℕ → ℕ → List ℕ → List ℕ → Type 0
Said true ws n S S' = AllClosed ws (drop (flags_from n) S) (take n S')
Said false ws n S S' = (c : List Bool) → Working ws (drop (flags_from n) S) c → Agrees c (take n S) → ⊥

-- true: no pair forces more; false: no split that works agrees with the marks
pub record Propagated (ws : List ℕ) (n : ℕ) (S S' : List ℕ) (r : Bool) : Type 0 where
  pub carried : Carried ws n S S'
  pub said : Said r ws n S S'
