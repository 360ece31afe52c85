-- Marks: what is known of each register's choice, and what a step that follows broken choices promises.
-- The promise speaks of all splits with a property P, such as to work: each that agreed with the marks still does,
-- and a clash says that no such split agrees with the marks.
use Rattle.std.specs.Prelude.{◌≡◌, Bool, true, false, List, [], ◌∷◌, map, ℕ, zero, suc, ◌+◌, ◌<◌, length, get_or}
use Rattle.timing.specs.declared.Pair.{Pair}
use Rattle.split_laws.specs.declared.Change.{Change}
use Rattle.split_laws.specs.declared.Change.TheVariants.{Settled, Changed, Clash}
use Rattle.split_laws.specs.Split.{meets}
use Rattle.split_laws.specs.Choices.{mark, is_late, late, row_launch, row_capture, broken_row, flag_at}

-- a split's choice for a register, as a mark
abbrev pub choice : List Bool → ℕ → ℕ
choice c i = mark (get_or c i false)

-- the split agrees with every mark that is set
abbrev pub Agrees : List Bool → List ℕ → Type 0
Agrees c M = (i : ℕ) → (get_or M i 0 ≡ 0 → ⊥) → get_or M i 0 ≡ choice c i

-- the split that marks give: late where the mark says so
unfoldable pub split_of : List ℕ → List Bool
split_of M = map is_late M

-- how many registers have no mark
abbrev pub is_zero : ℕ → ℕ
is_zero zero = 1
is_zero (suc x) = 0

abbrev pub unset : List ℕ → ℕ
unset [] = 0
unset (x ∷ M) = is_zero x + unset M

-- ---- steps

-- from M to M' no split of P is lost
pub record Kept (P : List Bool → Type 0) (M M' : List ℕ) : Type 0 where
  pub size : length M' ≡ length M
  pub sound : (c : List Bool) → P c → Agrees c M → Agrees c M'

-- what each answer of a step says; C is what the step was to bring about
abbrev pub MarkTold : Change → (List Bool → Type 0) → (List ℕ → Type 0) → List ℕ → List ℕ → Type 0
MarkTold Settled P C M M' = (M' ≡ M) × C M
MarkTold Changed P C M M' = unset M' < unset M
MarkTold Clash P C M M' = (c : List Bool) → P c → Agrees c M → ⊥

pub record MarkStep (P : List Bool → Type 0) (C : List ℕ → Type 0) (M M' : List ℕ) (o : Change) : Type 0 where
  pub kept : Kept P M M'
  pub told : MarkTold o P C M M'

-- the answer of two steps
abbrev pub joined : Change → Change → Change
joined Settled o = o
joined Changed Settled = Changed
joined Changed Changed = Changed
joined Changed Clash = Clash
joined Clash o = Clash

-- register r is to have mark v
abbrev pub Forced : ℕ → ℕ → List ℕ → List ℕ → Change → Type 0
Forced r v = MarkStep (λ (c : List Bool). choice c r ≡ v) (λ (M : List ℕ). get_or M r 0 ≡ v)

-- a mark `when` at a forces the mark `then` at b
abbrev pub Followed : ℕ → ℕ → ℕ → ℕ → List ℕ → List ℕ → Change → Type 0
Followed a when b then =
    MarkStep (λ (c : List Bool). choice c a ≡ when → choice c b ≡ then)
    (λ (M : List ℕ). get_or M a 0 ≡ when → get_or M b 0 ≡ then)

-- ---- one row of one pair

-- the split does not make the choice of row k at launch a and capture b
abbrev pub Avoids : ℕ → ℕ → ℕ → List Bool → Type 0
Avoids a b k c = choice c a ≡ row_launch k → choice c b ≡ row_capture k → ⊥

-- neither end has more to force by row k
abbrev pub RowClosed : ℕ → ℕ → ℕ → List ℕ → Type 0
RowClosed a b k M = (get_or M a 0 ≡ row_launch k → get_or M b 0 + row_capture k ≡ 3) × (get_or M b 0 ≡ row_capture k → get_or M a 0 + row_launch k ≡ 3)

-- row k is followed where its flag f is 1
abbrev pub Applied : ℕ → ℕ → ℕ → ℕ → List ℕ → List ℕ → Change → Type 0
Applied a b k f = MarkStep (λ (c : List Bool). f ≡ 1 → Avoids a b k c) (λ (M : List ℕ). f ≡ 1 → RowClosed a b k M)

-- the capture b is late where the flag f of early, early is 1
abbrev pub Seeded : ℕ → ℕ → List ℕ → List ℕ → Change → Type 0
Seeded b f = MarkStep (λ (c : List Bool). f ≡ 1 → choice c b ≡ late) (λ (M : List ℕ). f ≡ 1 → get_or M b 0 ≡ late)

-- ---- one pair

-- the four flags are those of the pair, at period t and offset s
abbrev pub Flagged : ℕ → ℕ → Pair → List ℕ → Type 0
Flagged t s p fs = (k : ℕ) → k < 4 → get_or fs k 0 ≡ flag_at t s p k

-- the pair meets its rules under the split
abbrev pub keeps : ℕ → ℕ → Pair → List Bool → Bool
keeps t s p c = meets t s p (get_or c p.launch false) (get_or c p.capture false)

-- it does so at a period and an offset whose broken choices the flags are
pub record Keeps (p : Pair) (fs : List ℕ) (c : List Bool) : Type 0 where
  pub period : ℕ
  pub offset : ℕ
  pub flags : Flagged period offset p fs
  pub met : keeps period offset p c ≡ true

-- no broken choice among the first k rows forces more
abbrev pub RowsClosed : ℕ → ℕ → ℕ → Pair → List ℕ → Type 0
RowsClosed k t s p M = (i : ℕ) → i < k → broken_row t s p i ≡ true → RowClosed p.launch p.capture i M

-- no broken choice of the pair forces more, and its capture is late where early, early is broken
pub record MarksClosed (t s : ℕ) (p : Pair) (M : List ℕ) : Type 0 where
  pub rows : RowsClosed 4 t s p M
  pub seeded : broken_row t s p 0 ≡ true → get_or M p.capture 0 ≡ late

-- all that the flags force is followed
abbrev pub Settles : Pair → List ℕ → List ℕ → List ℕ → Change → Type 0
Settles p fs = MarkStep (Keeps p fs) (λ (M : List ℕ). (t s : ℕ) → Flagged t s p fs → MarksClosed t s p M)
