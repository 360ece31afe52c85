-- The difference of two natural numbers, with its sign: not negative exactly where the second is at most the first; how large it is.
use mathlib.Core.Bool.{Bool, true, false, not}
use mathlib.Core.Logic.{◌⊎◌, inl, inr, ⊎_elim}
use mathlib.Core.Path.{◌≡◌, refl, sym, ap, ◌∙◌}
use Prim.Native.Nat.{ℕ, zero, suc, ◌+◌, ◌-◌, ◌^◌, ◌<◌, ◌≤◌, zero-le}
use native.Mathlib.Nat.{add-zero, sub-zero}
use native.Mathlib.Omega.{arith}
use borrow.Author.Tests.{lt-ltb, le-ltb, le-leb, lt-leb, leb-true, ltb-true, ltb-false}
use lib.Dec.{leb, ltb}
use lib.IntN.{ℤ, pos, negsuc, nat_abs, sub_ℕ, ◌-ℤ◌}
use lib.Signed.{mag, non_neg, le_z, lt_z}
use mir.Syntax.{w64}
use mir.Val.{SFits, to_z, of_z}
use mir.ValLaws.{to_z-of_z, to_z_pos}

-- ---- the two cases

pub lt-or-le : (a b : ℕ) → (a < b) ⊎ (b ≤ a)
lt-or-le a b = go (ltb a b) refl
  where
    go : (t : Bool) → ltb a b ≡ t → (a < b) ⊎ (b ≤ a)
    go true e = inl (ltb-true a b e)
    go false e = inr (ltb-false a b e)

below : (a b : ℕ) → a < b → sub_ℕ a b ≡ negsuc (b - suc a)
below a b h = rw (lt-ltb a b h)

above : (a b : ℕ) → b ≤ a → sub_ℕ a b ≡ pos (a - b)
above a b h = rw (le-ltb a b h)

-- ---- the sign

-- not negative: the order of the two
pub sign : (a b : ℕ) → non_neg (sub_ℕ a b) ≡ leb b a
sign a b = ⊎_elim (λ h. rw (below a b h, lt-leb b a h)) (λ h. rw (above a b h, le-leb b a h)) (lt-or-le a b)

module _ {a b : ℕ} where
  pub not-negative→le : non_neg (sub_ℕ a b) ≡ true → b ≤ a
  not-negative→le e = leb-true b a (sym (sign a b) ∙ e)

  pub le→not-negative : b ≤ a → non_neg (sub_ℕ a b) ≡ true
  le→not-negative h = sign a b ∙ le-leb b a h

-- the tests of a program
pub at-least-nought : (z : ℤ) → le_z (pos 0) z ≡ non_neg z
at-least-nought (pos n) = le-leb 0 n zero-le
at-least-nought (negsuc n) = refl

pub below-nought : (z : ℤ) → lt_z z (pos 0) ≡ not (non_neg z)
below-nought (pos n) = le-ltb n 0 zero-le
below-nought (negsuc n) = refl

-- the same on both sides changes nothing
pub both-more : (a b c : ℕ) → sub_ℕ (a + c) (b + c) ≡ sub_ℕ a b
both-more a b c = go (lt-or-le a b)
  where
    go : (a < b) ⊎ (b ≤ a) → sub_ℕ (a + c) (b + c) ≡ sub_ℕ a b
    go (inl h) =
        let more : a + c < b + c = omega arith in
        let same : b + c - suc (a + c) ≡ b - suc a = omega arith in
        rw (below a b h, below (a + c) (b + c) more) (ap negsuc same)
    go (inr h) =
        let more : b + c ≤ a + c = omega arith in
        let same : a + c - (b + c) ≡ a - b = omega arith in
        rw (above a b h, above (a + c) (b + c) more) (ap pos same)

-- ---- the size: no larger than the larger of the two

pub size : (a b most : ℕ) → a ≤ most → b ≤ most → nat_abs (sub_ℕ a b) ≤ most
size a b most ha hb = ⊎_elim (λ h. rw (below a b h) (omega arith)) (λ h. rw (above a b h) (omega arith)) (lt-or-le a b)

pub size-mag : (z : ℤ) {most : ℕ} → nat_abs z ≤ most → mag z ≤ most
size-mag (pos n) h = h
size-mag (negsuc n) h = omega arith

fits : (a b half : ℕ) → a < half → b < half → mag (sub_ℕ a b) < half
fits a b zero ha hb = absurd (omega arith)
fits a b (suc most) ha hb =
    let small = size-mag (sub_ℕ a b) (size a b most (omega arith) (omega arith)) in
    omega arith

minus_is : (a b : ℕ) → pos a -ℤ pos b ≡ sub_ℕ a b
minus_is a zero = rw (add-zero, above a zero (omega arith), sub-zero)
minus_is a (suc b) = refl

-- ---- in 64 bits

-- what the machine reads of a number that it holds
pub as_read : (z : ℤ) → mag z < 2 ^ 63 → to_z w64 (of_z w64 z) ≡ z
as_read z h = to_z-of_z w64 z (record { sfits = h })

pub sign_read : (z : ℤ) → mag z < 2 ^ 63 → le_z (pos 0) (to_z w64 (of_z w64 z)) ≡ non_neg z
sign_read z h = rw (as_read z h) (at-least-nought z)

module _ (a b : ℕ) (ha : a < 2 ^ 63) (hb : b < 2 ^ 63) where
  read : to_z w64 a -ℤ to_z w64 b ≡ sub_ℕ a b
  read = rw (to_z_pos w64 a ha, to_z_pos w64 b hb) (minus_is a b)

  pub minus-fits : SFits w64 (to_z w64 a -ℤ to_z w64 b)
  minus-fits = rw read (record { sfits = fits a b (2 ^ 63) ha hb })

  pub minus-read : to_z w64 (of_z w64 (to_z w64 a -ℤ to_z w64 b)) ≡ sub_ℕ a b
  minus-read = to_z-of_z w64 _ minus-fits ∙ read
