-- `lowest` gives a place at which no number is lower, and before which each is higher.
use mathlib.Core.Bool.{Bool, true, false, not, cond}
use mathlib.Core.Logic.{◌⊎◌, inl, inr}
use mathlib.Core.Path.{◌≡◌, refl}
use Prim.Native.Nat.{ℕ, zero, suc, ◌+◌, ◌<◌}
use native.Mathlib.Nat.{eq-or-lt_of_le}
use native.Mathlib.Numerals.{add-one}
use native.Mathlib.Omega.{arith}
use borrow.Author.Tests.{le-leb, lt-leb, ltb-true, ltb-false}
use lib.Dec.{T, leb, ltb, leb→le, le→leb, ltb→lt}
use lib.IntN.{ℤ, pos, negsuc}
use lib.Signed.{le_z, lt_z, ◌≤ℤ◌, ◌<ℤ◌, ≤ℤ_refl, lt_z_yes, lt_z_no, <ℤ-≤ℤ_trans}
use Rattle.search.specs.Lowest.{lowest}

-- ---- the order of whole numbers with sign

lt-le : (a b : ℤ) → T (lt_z a b) → T (le_z a b)
lt-le (pos a) (pos b) h = let l = ltb→lt a b h in le→leb a b (omega arith)
lt-le (pos a) (negsuc b) h = h
lt-le (negsuc a) (pos b) h = tt
lt-le (negsuc a) (negsuc b) h = let l = ltb→lt b a h in le→leb b a (omega arith)

le-le : (a b c : ℤ) → T (le_z a b) → T (le_z b c) → T (le_z a c)
le-le (pos a) (pos b) (pos c) h k = let l = leb→le a b h in let m = leb→le b c k in le→leb a c (omega arith)
le-le (pos a) (pos b) (negsuc c) h k = k
le-le (pos a) (negsuc b) c h k = absurd h
le-le (negsuc a) b (pos c) h k = tt
le-le (negsuc a) (pos b) (negsuc c) h k = absurd k
le-le (negsuc a) (negsuc b) (negsuc c) h k = let l = leb→le b a h in let m = leb→le c b k in le→leb c a (omega arith)

le_not_lt : (a b : ℕ) → leb b a ≡ not (ltb a b)
le_not_lt a b = go (ltb a b) refl
  where
    go : (t : Bool) → ltb a b ≡ t → leb b a ≡ not t
    go true e = lt-leb b a (ltb-true a b e)
    go false e = le-leb b a (ltb-false a b e)

-- one test says what the other denies
pub at-most-is : (a b : ℤ) → le_z b a ≡ not (lt_z a b)
at-most-is (pos a) (pos b) = le_not_lt a b
at-most-is (pos a) (negsuc b) = refl
at-most-is (negsuc a) (pos b) = refl
at-most-is (negsuc a) (negsuc b) = le_not_lt b a

module _ {a b : ℤ} where
  pub lower→le : a <ℤ b → a ≤ℤ b
  lower→le h = record { le = lt-le a b h.lt }

  -- from a test
  pub lower-true : lt_z a b ≡ true → a <ℤ b
  lower-true e = lt_z_yes (rw e tt)

  pub lower-false : lt_z a b ≡ false → b ≤ℤ a
  lower-false e = lt_z_no (rw e tt)

  pub le_trans : {c : ℤ} → a ≤ℤ b → b ≤ℤ c → a ≤ℤ c
  le_trans {c} h k = record { le = le-le a b c h.le k.le }

-- ---- the place

-- x is the first of the places below k with the lowest number
pub record IsLowest (f : ℕ → ℤ) (k x : ℕ) : Type 0 where
  pub below : x < k
  pub least : (j : ℕ) → j < k → f x ≤ℤ f j
  pub before : (j : ℕ) → j < x → f x <ℤ f j

module _ (f : ℕ → ℤ) where
  -- one more place: lower than all before, or not
  module _ {k x : ℕ} (so_far : IsLowest f k x) where
    lower : f k <ℤ f x → IsLowest f (suc k) k
    lower h = record { below = omega arith; least = λ j l. least j (eq-or-lt_of_le l); before = λ j l. <ℤ-≤ℤ_trans h (so_far.least j l) }
      where
        least : (j : ℕ) → (suc j ≡ suc k) ⊎ (suc j < suc k) → f k ≤ℤ f j
        least j (inl e) = let same : k ≡ j = omega arith in rw same (≤ℤ_refl (f j))
        least j (inr l) = lower→le (<ℤ-≤ℤ_trans h (so_far.least j (omega arith)))

    not_lower : f x ≤ℤ f k → IsLowest f (suc k) x
    not_lower h = record { below = omega (arith, so_far.below); least = λ j l. least j (eq-or-lt_of_le l); before = so_far.before }
      where
        least : (j : ℕ) → (suc j ≡ suc k) ⊎ (suc j < suc k) → f x ≤ℤ f j
        least j (inl e) = let same : k ≡ j = omega arith in rw same at h
        least j (inr l) = so_far.least j (omega arith)

  -- worked out place by place
  pub lowest-one : lowest f 1 ≡ 0
  unfolding lowest
  lowest-one = go (lt_z (f 0) (f 0))
    where
      go : (b : Bool) → cond {A = ℕ} b 0 0 ≡ 0
      go true = refl
      go false = refl

  module _ (k : ℕ) {x : ℕ} (is : x ≡ lowest f k) where
    pub lowest-lower : lt_z (f k) (f x) ≡ true → k ≡ lowest f (k + 1)
    unfolding lowest
    lowest-lower e = rw (add-one, ← is, e)

    pub lowest-kept : lt_z (f k) (f x) ≡ false → x ≡ lowest f (k + 1)
    unfolding lowest
    lowest-kept e = rw (add-one, ← is, e)

  alone : IsLowest f 1 0
  alone = record { below = omega arith; least = least; before = λ j l. absurd (omega arith) }
    where
      least : (j : ℕ) → j < 1 → f 0 ≤ℤ f j
      least j l = let same : j ≡ 0 = omega arith in rw same (≤ℤ_refl (f 0))

  next : (k : ℕ) → IsLowest f k (lowest f k) → IsLowest f (suc k) (lowest f (suc k))
  unfolding lowest
  next k so_far = go (lt_z (f k) (f (lowest f k))) refl
    where
      go : (b : Bool) → lt_z (f k) (f (lowest f k)) ≡ b → IsLowest f (suc k) (cond b k (lowest f k))
      go true e = lower so_far (lower-true e)
      go false e = not_lower so_far (lower-false e)

  from_one : (k : ℕ) → IsLowest f (suc k) (lowest f (suc k))
  from_one zero = rw lowest-one alone
  from_one (suc k) = next (suc k) (from_one k)

  pub lowest-is : (k : ℕ) → 0 < k → IsLowest f k (lowest f k)
  lowest-is zero h = absurd (omega arith)
  lowest-is (suc k) h = from_one k
