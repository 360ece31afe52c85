-- `least` gives the least number that passes, and there is only one.
use mathlib.Core.Bool.{Bool, true, false, false≢true}
use mathlib.Core.Logic.{◌⊎◌, inl, inr}
use mathlib.Core.Path.{◌≡◌, refl, ap, sym, ◌∙◌}
use Prim.Native.Nat.{ℕ, zero, suc, ◌+◌, ◌-◌, ◌≤◌, ◌<◌}
use native.Mathlib.Nat.{le_refl, le_trans, eq-or-lt_of_le}
use native.Mathlib.Omega.{arith}
use lib.Dec.{ltb}
use borrow.Author.Tests.{ltb-true, ltb-false}
use Rattle.search.specs.Search.{first_from, least}

-- x is the first from low on that passes, or high
pub record IsLeast (f : ℕ → Bool) (low high x : ℕ) : Type 0 where
  pub from : low ≤ x
  pub upto : x ≤ high
  pub passes : x < high → f x ≡ true
  pub before : (t : ℕ) → low ≤ t → t < x → f t ≡ false

module _ (f : ℕ → Bool) where
  first-is-least : (k t : ℕ) → IsLeast f t (t + k) (first_from f t k)
  unfolding first_from
  first-is-least zero t =
      record { from = le_refl t; upto = omega arith; passes = λ h. absurd (omega arith); before = λ u a b. absurd (omega arith) }
  first-is-least (suc k) t = go (f t) refl (first-is-least k (suc t))
    where
      go : (b : Bool) → f t ≡ b → IsLeast f (suc t) (suc t + k) (first_from f (suc t) k) → IsLeast f t (t + suc k) (first_from f t (suc k))
      go true e r = rw e (record { from = le_refl t; upto = omega arith; passes = λ h. e; before = λ u a b. absurd (omega arith) })
      go false e r =
          rw e (record { from = omega arith; upto = omega arith; passes = λ h. r.passes (omega arith); before = λ u a b. early u (eq-or-lt_of_le a) b })
        where
          early : (u : ℕ) → (t ≡ u) ⊎ (t < u) → u < first_from f (suc t) k → f u ≡ false
          early u (inl q) b = ap f (sym q) ∙ e
          early u (inr l) b = r.before u l b

  module _ (low high : ℕ) where
    pub least-is-least : low ≤ high → IsLeast f low high (least f low high)
    unfolding least
    least-is-least h =
        let e : low + (high - low) ≡ high = omega arith in
        rw e at (first-is-least (high - low) low)

    not-before : (x y : ℕ) → IsLeast f low high x → IsLeast f low high y → x < y → ⊥
    not-before x y a b h = false≢true (sym (b.before x a.from h) ∙ a.passes (omega arith))

    -- there is only one
    pub least-one : (x y : ℕ) → IsLeast f low high x → IsLeast f low high y → x ≡ y
    least-one x y a b = go (ltb x y) refl (ltb y x) refl
      where
        go : (p : Bool) → ltb x y ≡ p → (q : Bool) → ltb y x ≡ q → x ≡ y
        go true e q g = absurd (not-before x y a b (ltb-true x y e))
        go false e true g = absurd (not-before y x b a (ltb-true y x g))
        go false e false g = omega (arith, ltb-false x y e, ltb-false y x g)

    pub least-is : (x : ℕ) → IsLeast f low high x → least f low high ≡ x
    least-is x a = least-one (least f low high) x (least-is-least (le_trans a.from a.upto)) a

    -- what passes is not before it
    pub least-below : low ≤ high → (t : ℕ) → low ≤ t → f t ≡ true → least f low high ≤ t
    least-below h t a e = go (ltb t (least f low high)) refl
      where
        go : (b : Bool) → ltb t (least f low high) ≡ b → least f low high ≤ t
        go true g = absurd (false≢true (sym ((least-is-least h).before t a (ltb-true t _ g)) ∙ e))
        go false g = ltb-false t _ g

    -- where high passes, so does the least
    pub least-passes : low ≤ high → f high ≡ true → f (least f low high) ≡ true
    least-passes h e = go (eq-or-lt_of_le (least-is-least h).upto)
      where
        go : (least f low high ≡ high) ⊎ (least f low high < high) → f (least f low high) ≡ true
        go (inl q) = ap f q ∙ e
        go (inr l) = (least-is-least h).passes l

  -- a later start finds the same, if nothing before it passes
  pub least-later : (low start high : ℕ) → low ≤ start → start ≤ high → ((t : ℕ) → low ≤ t → t < start → f t ≡ false)
      → least f start high ≡ least f low high
  least-later low start high a b none =
      let g = least-is-least start high b in
      sym (least-is low high (least f start high) (record { from = le_trans a g.from; upto = g.upto; passes = g.passes; before = early }))
    where
      early : (t : ℕ) → low ≤ t → t < least f start high → f t ≡ false
      early t p q = go (ltb t start) refl
        where
          go : (b : Bool) → ltb t start ≡ b → f t ≡ false
          go true e = none t p (ltb-true t start e)
          go false e = (least-is-least start high b).before t (ltb-false t start e) q
