-- How the splits that work change with the period and the offset, in parts of a picosecond, u to one.
-- `over-reach` and `over-lower` are the two halves of Kohira and Takahashi 2012, theorem 1, for one split.
use mathlib.Core.Bool.{Bool, true, false}
use mathlib.Core.List.{List, [], ◌∷◌}
use mathlib.Core.Logic.{◌⊎◌, inl, inr}
use mathlib.Core.Path.{◌≡◌, refl, sym, subst}
use Prim.Native.Nat.{ℕ, zero, suc, ◌+◌, ◌*◌, ◌≤◌, ◌<◌, max}
use native.Mathlib.Nat.{le_refl, le_trans, mul-le-mul_right, le_of_mul-le-mul_right}
use native.Mathlib.Omega.{arith}
use lib.Dec.{leb}
use lib.ListN.{replicate}
use borrow.Author.Tests.{leb-true, leb-false}
use Rattle.timing.specs.declared.Pair.{Pair}
use Rattle.timing.specs.Rules.{Each}
use Rattle.timing.proofs.RuleLaws.{test→met, met→test}
use Rattle.free_laws.specs.Free.{common}
use Rattle.timing.proofs.EachLaws.{each_map, each-zip}
use Rattle.split_laws.specs.Split.{time_of, works}
use Rattle.split_laws.specs.Marks.{keeps}
use Rattle.split_laws.proofs.ClosureLaws.{works-each, each-works}
use Rattle.plan_laws.specs.Unbeaten.{choice_of, MeetsOver, WorksOver}

-- ---- the test and the rules say the same

module _ (t s : ℕ) (c : List Bool) (ps : List Pair) where
  pub works→over : works t s ps c ≡ true → WorksOver 1 t s c ps
  works→over e = each_map over ps (works-each t s c ps e)
    where
      over : (p : Pair) → keeps t s p c ≡ true → MeetsOver 1 t s c p
      over p k =
          let m = test→met p t (time_of s (choice_of c p.launch)) (time_of s (choice_of c p.capture)) k in
          record { setup = omega (arith, m.setup); hold = omega (arith, m.hold) }

  pub over→works : WorksOver 1 t s c ps → works t s ps c ≡ true
  over→works h =
      each-works t s c ps
      (each_map (λ p m. met→test p t _ _ (record { setup = omega (arith, m.setup); hold = omega (arith, m.hold) })) ps h)

-- ---- a coarser unit

timing-scale : (k s : ℕ) (a : Bool) → time_of (s * k) a ≡ time_of s a * k
timing-scale k s true = refl
timing-scale k s false = omega arith

pub over-coarser : (k u t s : ℕ) (c : List Bool) (ps : List Pair) → 0 < k → WorksOver (u * k) (t * k) (s * k) c ps → WorksOver u t s c ps
over-coarser k u t s c ps pos = each_map coarser ps
  where
    coarser : (p : Pair) → MeetsOver (u * k) (t * k) (s * k) c p → MeetsOver u t s c p
    coarser p m =
        let a = timing-scale k s (choice_of c p.launch) in
        let b = timing-scale k s (choice_of c p.capture) in
        let x : ℕ = time_of s (choice_of c p.launch) in
        let y : ℕ = time_of s (choice_of c p.capture) in
        let su : (x + p.greatest * u) * k ≤ (y + t) * k = omega (arith, m.setup) in
        let ho : y * k ≤ (x + p.least * u) * k = omega (arith, m.hold) in
        record { setup = le_of_mul-le-mul_right su pos; hold = le_of_mul-le-mul_right ho pos }

-- ---- the common period

max-either : (a b : ℕ) → (max a b ≡ a) ⊎ (max a b ≡ b)
max-either a b = go (leb a b) refl
  where
    go : (e : Bool) → leb a b ≡ e → (max a b ≡ a) ⊎ (max a b ≡ b)
    go true e = inr (omega (arith, leb-true a b e))
    go false e = inl (omega (arith, leb-false a b e))

-- no greatest delay is above it
pub below-common : (ps : List Pair) (h : ℕ) → common ps ≤ h → Each (λ p. p.greatest ≤ h) ps
unfolding common
below-common [] h l = tt
below-common (p ∷ ps) h l = (omega arith, below-common ps h (omega arith))

-- a property of 1 and of each greatest delay is one of the common period
common-is : (P : ℕ → Type 0) (ps : List Pair) → P 1 → Each (λ p. P p.greatest) ps → P (common ps)
unfolding common
common-is P [] one h = one
common-is P (p ∷ ps) one h = go (max-either p.greatest (common ps)) (common-is P ps one h.1)
  where
    go : (max p.greatest (common ps) ≡ p.greatest) ⊎ (max p.greatest (common ps) ≡ common ps) → P (common ps)
        → P (max p.greatest (common ps))
    go (inl e) rest = subst P (sym e) h.0
    go (inr e) rest = subst P (sym e) rest

-- ---- one split

timing-le : (s : ℕ) (a : Bool) → time_of s a ≤ s
timing-le s true = le_refl s
timing-le s false = omega arith

-- A smaller offset, if the period and it reach the greatest delay: the four choices of a pair. Two alike see no offset;
-- late, early gets easier in setup; early, late meets setup because period and offset reach that far, and hold more easily.
lower-four : (a b : Bool) (t s o G L : ℕ) → o ≤ s → G ≤ t + o → time_of s a + G ≤ time_of s b + t → time_of s b ≤ time_of s a + L
    → (time_of o a + G ≤ time_of o b + t) × (time_of o b ≤ time_of o a + L)
lower-four false false t s o G L h g p q = (p, q)
lower-four false true t s o G L h g p q = (omega arith, omega arith)
lower-four true false t s o G L h g p q = (omega arith, omega arith)
lower-four true true t s o G L h g p q = (omega arith, omega arith)

module _ (u t s : ℕ) (c : List Bool) (ps : List Pair) (w : WorksOver u t s c ps) where
  -- a longer period
  pub over-longer : (v : ℕ) → t ≤ v → WorksOver u v s c ps
  over-longer v h = each_map (λ p m. record { setup = omega (arith, m.setup); hold = m.hold }) ps w

  -- a smaller offset: theorem 1, its second half
  pub over-lower : (h o : ℕ) → Each (λ p. p.greatest ≤ h) ps → h * u ≤ t + o → o ≤ s → WorksOver u t o c ps
  over-lower h o cap enough l = each-zip lower ps cap w
    where
      lower : (p : Pair) → p.greatest ≤ h → MeetsOver u t s c p → MeetsOver u t o c p
      lower p g m =
          let far : p.greatest * u ≤ t + o = le_trans (mul-le-mul_right u g) enough in
          let r = lower-four (choice_of c p.launch) (choice_of c p.capture) t s o (p.greatest * u) (p.least * u) l far m.setup m.hold in
          record { setup = r.0; hold = r.1 }

  -- Period and offset together reach the common period: theorem 1, its first half. No pair's setup lets its greatest delay
  -- be longer than the period and the offset together.
  pub over-reach : u ≤ t → common ps * u ≤ t + s
  over-reach h =
      common-is (λ g. g * u ≤ t + s) ps (omega arith)
      (each_map (λ p m. omega (arith, m.setup, timing-le s (choice_of c p.capture))) ps w)

-- ---- all early

abbrev pub all_early : ℕ → List Bool
all_early n = replicate n false

early-choice : (n r : ℕ) → choice_of (all_early n) r ≡ false
early-choice zero r = refl
early-choice (suc n) zero = refl
early-choice (suc n) (suc r) = early-choice n r

-- it works at any offset, from the greatest delays up
pub over-early : (n u t s h : ℕ) (ps : List Pair) → Each (λ p. p.greatest ≤ h) ps → h * u ≤ t → WorksOver u t s (all_early n) ps
over-early n u t s h ps cap l = each_map early ps cap
  where
    early : (p : Pair) → p.greatest ≤ h → MeetsOver u t s (all_early n) p
    early p g =
        let a = early-choice n p.launch in
        let b = early-choice n p.capture in
        record { setup = rw (a, b) (omega (arith, mul-le-mul_right u g)); hold = rw (a, b) (omega arith) }
