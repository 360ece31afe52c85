-- Properties of a pair that two pairs joined have exactly where each of the two has them: both rules, at whole times,
-- at fractions and under a split, and a limit of the greatest delay.
use mathlib.Core.Bool.{Bool, true, false}
use mathlib.Core.List.{List}
use mathlib.Core.Path.{◌≡◌, refl, subst}
use Prim.Native.Nat.{ℕ, ◌+◌, ◌*◌, ◌≤◌, max, min}
use native.Mathlib.Nat.{mul-le-mul_right}
use native.Mathlib.Omega.{arith}
use lib.Dec.{leb}
use borrow.Author.Tests.{leb-true, leb-false}
use Rattle.timing.specs.declared.Pair.{Pair}
use Rattle.ordering.specs.Order.{joined, SameEnds, Joins}
use Rattle.free_laws.specs.Constraint.{Meets, setup, hold}
use Rattle.free_laws.specs.Rival.{Frac, frac_at, AtMost, MeetsFrac}
use Rattle.split_laws.specs.Split.{time_of}
use Rattle.plan_laws.specs.Unbeaten.{choice_of, MeetsOver}

-- what holds of both numbers holds of the larger and of the smaller
module _ (A : ℕ → Type 0) (g h : ℕ) (a : A g) (b : A h) where
  larger : A (max g h)
  larger = go (leb g h) refl
    where
      go : (e : Bool) → leb g h ≡ e → A (max g h)
      go true e = let is : h ≡ max g h = omega (arith, leb-true g h e) in subst A is b
      go false e = let is : g ≡ max g h = omega (arith, leb-false g h e) in subst A is a

  smaller : A (min g h)
  smaller = go (leb g h) refl
    where
      go : (e : Bool) → leb g h ≡ e → A (min g h)
      go true e = let is : g ≡ min g h = omega (arith, leb-true g h e) in subst A is a
      go false e = let is : h ≡ min g h = omega (arith, leb-false g h e) in subst A is b

-- A is of a pair's registers and its greatest delay, and holds of a smaller one too; B is of its registers and its least
-- delay, and holds of a larger one too; P says both
module _ (A B : ℕ → ℕ → ℕ → Type 0)
    (less : (a b g h : ℕ) → g ≤ h → A a b h → A a b g)
    (more : (a b l m : ℕ) → l ≤ m → B a b l → B a b m)
    (P : Pair → Type 0)
    (apart : (p : Pair) → P p → A p.launch p.capture p.greatest × B p.launch p.capture p.least)
    (both : (p : Pair) → A p.launch p.capture p.greatest → B p.launch p.capture p.least → P p) where
  both-joins : Joins P
  both-joins = record { parts = parts; whole = whole }
    where
      parts : (p q : Pair) → SameEnds p q → P (joined p q) → P p × P q
      parts p q e h =
          let a : ℕ = p.launch in
          let b : ℕ = p.capture in
          let v = apart (joined p q) h in
          let g = less a b q.greatest (max p.greatest q.greatest) (omega arith) v.0 in
          let l = more a b (min p.least q.least) q.least (omega arith) v.1 in (
            both p (less a b p.greatest _ (omega arith) v.0) (more a b _ p.least (omega arith) v.1),
            both q (rw (← e.0, ← e.1) g) (rw (← e.0, ← e.1) l),
          )

      whole : (p q : Pair) → SameEnds p q → P p → P q → P (joined p q)
      whole p q e h k =
          let a : ℕ = p.launch in
          let b : ℕ = p.capture in
          let g : A a b q.greatest = rw (e.0, e.1) (apart q k).0 in
          let l : B a b q.least = rw (e.0, e.1) (apart q k).1 in
          both (joined p q)
          (larger (A a b) p.greatest q.greatest (apart p h).0 g)
          (smaller (B a b) p.least q.least (apart p h).1 l)

-- both rules at period t and whole times
pub meets-joins : (t : ℕ) (f : ℕ → ℕ) → Joins (λ p. Meets f (setup t p) × Meets f (hold p))
meets-joins t f =
    both-joins
    (λ a b g. f a + g ≤ f b + t) (λ a b l. f b + 0 ≤ f a + l)
    (λ a b g h e m. omega arith) (λ a b l m e k. omega arith)
    (λ p. Meets f (setup t p) × Meets f (hold p)) (λ p m. m) (λ p g l. (g, l))

-- and at fractions
pub rival-joins : (t : ℕ) (s : List Frac) → Joins (λ p. MeetsFrac t (frac_at s p.launch) (frac_at s p.capture) p)
rival-joins t s =
    both-joins
    (λ a b g. AtMost (frac_at s a) g (frac_at s b) t) (λ a b l. AtMost (frac_at s b) 0 (frac_at s a) l)
    (λ a b g h e m. omega (arith, mul-le-mul_right ((frac_at s a).den * (frac_at s b).den) e))
    (λ a b l k e m. omega (arith, mul-le-mul_right ((frac_at s b).den * (frac_at s a).den) e))
    (λ p. MeetsFrac t (frac_at s p.launch) (frac_at s p.capture) p)
    (λ p m. (m.setup, m.hold)) (λ p g l. record { setup = g; hold = l })

-- and under a split
pub over-joins : (u t s : ℕ) (c : List Bool) → Joins (MeetsOver u t s c)
over-joins u t s c =
    both-joins
    (λ a b g. time_of s (choice_of c a) + g * u ≤ time_of s (choice_of c b) + t)
    (λ a b l. time_of s (choice_of c b) ≤ time_of s (choice_of c a) + l * u)
    (λ a b g h e m. omega (arith, mul-le-mul_right u e)) (λ a b l k e m. omega (arith, mul-le-mul_right u e))
    (MeetsOver u t s c) (λ p m. (m.setup, m.hold)) (λ p g l. record { setup = g; hold = l })

-- no greatest delay above c
pub limit-joins : (c : ℕ) → Joins (λ p. p.greatest ≤ c)
limit-joins c =
    both-joins
    (λ a b g. g ≤ c) (λ a b l. Unit {0}) (λ a b g h e m. omega arith) (λ a b l m e k. tt)
    (λ p. p.greatest ≤ c) (λ p m. (m, tt)) (λ p g l. g)
