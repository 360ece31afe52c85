-- Laws of the marks: steps one after the other, and what forcing, following and a broken choice come to.
-- Every step keeps each split that has the property and agreed with the marks; a step that changes anything sets a mark,
-- so that fewer registers are without (`unset` falls); a clash leaves no such split.
use mathlib.Core.Path.{◌≡◌, refl, sym, ◌∙◌, subst, subst⁻¹}
use mathlib.Core.Bool.{Bool, true, false}
use mathlib.Core.List.{List, [], ◌∷◌}
use Prim.Native.Nat.{ℕ, zero, suc, ◌≤◌, ◌<◌}
use native.Mathlib.Nat.{not-suc-le-zero, le_of_suc-le-suc}
use native.Mathlib.Decide.{ℕ_discrete}
use native.Mathlib.Omega.{arith}
use lib.ListN.{length, get_or, set, length-set}
use lib.Seq.{get_or-set_same, get_or-set_other}
use Rattle.split_laws.specs.declared.Change.{Change}
use Rattle.split_laws.specs.declared.Change.TheVariants.{Settled, Changed, Clash}
use Rattle.split_laws.specs.Choices.{mark, late, opposite, row_launch, row_capture}
use Rattle.split_laws.specs.Marks.{choice, Agrees, is_zero, unset, Kept, MarkTold, MarkStep, joined, Forced, Followed, Avoids, Applied, Seeded}
use Rattle.std.specs.Ordering.{ord_max}
use Rattle.split_laws.specs.contracts.ChangeOrd.TheImpl.{cmp-value}

mark-range : (b : Bool) → (1 ≤ mark b) × (mark b ≤ 2)
mark-range false = omega arith
mark-range true = omega arith

pub choice-range : (c : List Bool) (i : ℕ) → (1 ≤ choice c i) × (choice c i ≤ 2)
choice-range c i = mark-range (get_or c i false)

-- ---- steps

pub kept-none : (P : List Bool → Type 0) (M : List ℕ) → Kept P M M
kept-none P M = record { size = refl; sound = λ c p a. a }

pub kept_then : {P : List Bool → Type 0} {M M' M'' : List ℕ} → Kept P M M' → Kept P M' M'' → Kept P M M''
kept_then h k = record { size = k.size ∙ h.size; sound = λ c p a. k.sound c p (h.sound c p a) }

-- nothing to do
pub step-none : {P : List Bool → Type 0} {C : List ℕ → Type 0} (M : List ℕ) → C M → MarkStep P C M M Settled
step-none M h = record { kept = kept-none _ M; told = (refl, h) }

told-then : (P : List Bool → Type 0) (C D : List ℕ → Type 0) (M M' M'' : List ℕ) (o o' : Change) →
    Kept P M M' → MarkTold o P C M M' → MarkTold o' P D M' M'' → MarkTold (joined o o') P (λ (N : List ℕ). C N × D N) M M''
told-then P C D M M' M'' Settled Settled k h h' = (h'.0 ∙ h.0, (h.1, subst D h.0 h'.1))
told-then P C D M M' M'' Settled Changed k h h' = subst (λ (N : List ℕ). unset M'' < unset N) h.0 h'
told-then P C D M M' M'' Settled Clash k h h' = λ c p a. h' c p (k.sound c p a)
told-then P C D M M' M'' Changed Settled k h h' = subst⁻¹ (λ (N : List ℕ). unset N < unset M) h'.0 h
told-then P C D M M' M'' Changed Changed k h h' = omega arith
told-then P C D M M' M'' Changed Clash k h h' = λ c p a. h' c p (k.sound c p a)
told-then P C D M M' M'' Clash o' k h h' = h

-- one step after the other
pub step_then : {P : List Bool → Type 0} {C D : List ℕ → Type 0} {M M' M'' : List ℕ} {o o' : Change} →
    MarkStep P C M M' o → MarkStep P D M' M'' o' → MarkStep P (λ (N : List ℕ). C N × D N) M M'' (joined o o')
step_then {P} {C} {D} {M} {M'} {M''} {o} {o'} h k = record {
  kept = kept_then h.kept k.kept;
  told = told-then P C D M M' M'' o o' h.kept h.told k.told;
}

-- a step, read for splits of which more is known, and as bringing about less
pub step-as : {P Q : List Bool → Type 0} {C D : List ℕ → Type 0} {M M' : List ℕ} {o : Change} →
    ((c : List Bool) → Q c → Agrees c M → P c) → (C M → D M) → MarkStep P C M M' o → MarkStep Q D M M' o
step-as {P} {Q} {C} {D} {M} {M'} {o} p d h = record {
  kept = record { size = h.kept.size; sound = λ c q a. h.kept.sound c (p c q a) a };
  told = go o h.told;
}
  where
    go : (o : Change) → MarkTold o P C M M' → MarkTold o Q D M M'
    go Settled h = (h.0, d h.1)
    go Changed h = h
    go Clash h = λ c q a. h c (p c q a) a

pub step-for : {P Q : List Bool → Type 0} {C : List ℕ → Type 0} {M M' : List ℕ} {o : Change} → ((c : List Bool) → Q c → P c)
    → MarkStep P C M M' o → MarkStep Q C M M' o
step-for p h = step-as (λ c q a. p c q) (λ d. d) h

pub step-with : {P : List Bool → Type 0} {C D : List ℕ → Type 0} {M M' : List ℕ} {o : Change} → (C M → D M)
    → MarkStep P C M M' o → MarkStep P D M M' o
step-with d h = step-as (λ c q a. q) d h

-- ---- force

nonzero : (v : ℕ) → (v ≡ 0 → ⊥) → is_zero v ≡ 0
nonzero zero h = absurd (h refl)
nonzero (suc v) h = refl

-- a mark more leaves fewer without
pub unset_set : (M : List ℕ) (r v : ℕ) → r < length M → get_or M r 0 ≡ 0 → (v ≡ 0 → ⊥) → unset (set M r v) < unset M
unset_set [] r v h e n = absurd (not-suc-le-zero h)
unset_set (x ∷ M) zero v h e n = rw (nonzero v n, e) (omega arith)
unset_set (x ∷ M) (suc r) v h e n = omega (arith, unset_set M r v (le_of_suc-le-suc h) e n)

-- a mark that the split has keeps agreement
agrees-set : (c : List Bool) (M : List ℕ) (r v : ℕ) → r < length M → choice c r ≡ v → Agrees c M → Agrees c (set M r v)
agrees-set c M r v h p a i n = go (ℕ_discrete i r)
  where
    go : Dec (i ≡ r) → get_or (set M r v) i 0 ≡ choice c i
    go (yes q) = rw q (get_or-set_same M r v 0 h ∙ sym p)
    go (no q) = get_or-set_other M r i v 0 q ∙ a i (λ z. n (get_or-set_other M r i v 0 q ∙ z))

module _ (M : List ℕ) (r v : ℕ) where
  pub forced-same : get_or M r 0 ≡ v → Forced r v M M Settled
  forced-same e = step-none M e

  pub forced-new : r < length M → get_or M r 0 ≡ 0 → (v ≡ 0 → ⊥) → Forced r v M (set M r v) Changed
  forced-new h e n = record {
    kept = record { size = length-set M r v; sound = λ c p a. agrees-set c M r v h p a };
    told = unset_set M r v h e n;
  }

  pub forced-clash : (get_or M r 0 ≡ 0 → ⊥) → (get_or M r 0 ≡ v → ⊥) → Forced r v M M Clash
  forced-clash n d = record { kept = kept-none _ M; told = λ c p a. d (a r n ∙ p) }

-- ---- follow

module _ (a when b then : ℕ) where
  pub followed-not : (M : List ℕ) → (get_or M a 0 ≡ when → ⊥) → Followed a when b then M M Settled
  followed-not M n = step-none M (λ e. absurd (n e))

  pub followed : {M M' : List ℕ} {o : Change} → (when ≡ 0 → ⊥) → get_or M a 0 ≡ when → Forced b then M M' o
      → Followed a when b then M M' o
  followed n e h = step-as (λ c q g. q (sym (g a (λ z. n (sym e ∙ z))) ∙ e)) (λ f _. f) h

-- ---- a broken choice

pub applied-not : (a b k f : ℕ) (M : List ℕ) → (f ≡ 1 → ⊥) → Applied a b k f M M Settled
applied-not a b k f M n = step-none M (λ e. absurd (n e))

-- a choice other than v is the opposite of v
other : (c : List Bool) (i v : ℕ) → 1 ≤ v → v ≤ 2 → (choice c i ≡ v → ⊥) → choice c i ≡ opposite v
other c i v lo hi n = omega (arith, choice-range c i)

-- The choice of row k is broken, x at launch a and y at capture b: x forces the opposite of y, and y that of x.
-- A split that avoids the row's choice and makes it at one end makes the opposite at the other.
module _ (a b k : ℕ) (l : k < 4) where
  ahead : (c : List Bool) → Avoids a b k c → choice c a ≡ row_launch k → choice c b ≡ opposite (row_capture k)
  ahead c q x = other c b (row_capture k) (omega arith) (omega arith) (q x)

  back : (c : List Bool) → Avoids a b k c → choice c b ≡ row_capture k → choice c a ≡ opposite (row_launch k)
  back c q y = other c a (row_launch k) (omega arith) (omega arith) (λ x. q x y)

  pub applied : {x y x' y' f : ℕ} {M M' M'' : List ℕ} {o o' o'' : Change} → x ≡ row_launch k → y ≡ row_capture k → x' ≡ opposite x →
      y' ≡ opposite y → f ≡ 1 → o'' ≡ joined o o' → Followed a x b y' M M' o → Followed b y a x' M' M'' o'
      → Applied a b k f M M'' o''
  applied ex ey ex' ey' e1 e h h' =
      rw e
      (step-as (λ c q g. q e1) (λ z _. (λ at_a. rw (z.0 at_a) (omega arith), λ at_b. rw (z.1 at_b) (omega arith)))
      (step_then (step-for ahead (rw (ey', ex, ey) at h)) (step-for back (rw (ex', ex, ey) at h'))))

pub seeded-not : (b f : ℕ) (M : List ℕ) → (f ≡ 1 → ⊥) → Seeded b f M M Settled
seeded-not b f M n = step-none M (λ e. absurd (n e))

pub seeded : {b f : ℕ} {M M' : List ℕ} {o : Change} → f ≡ 1 → Forced b late M M' o → Seeded b f M M' o
seeded e h = step-as (λ c q g. q e) (λ d _. d) h

-- the greater of two answers is the answer of the two steps
pub max-joined : (a b : Change) → ord_max cmp-value.it a b ≡ joined a b
max-joined Settled Settled = refl
max-joined Settled Changed = refl
max-joined Settled Clash = refl
max-joined Changed Settled = refl
max-joined Changed Changed = refl
max-joined Changed Clash = refl
max-joined Clash Settled = refl
max-joined Clash Changed = refl
max-joined Clash Clash = refl
