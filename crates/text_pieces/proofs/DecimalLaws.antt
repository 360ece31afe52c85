-- Decimal numbers: the last digit and what stands before it, how many digits there are, and a sign.
use Prim.Native.Nat.{ℕ, zero, suc, ◌/◌, ◌%◌, ◌^◌, ◌≤◌, ◌<◌, zero-le}
use mathlib.Core.Bool.{Bool, true, false, cond, false≢true}
use mathlib.Core.List.{List, [], ◌∷◌, ◌++◌}
use mathlib.Core.Path.{◌≡◌, refl, sym, ap, ◌∙◌}
use native.Mathlib.Nat.{pow-suc, pow-succ', div-lt_iff_lt-mul}
use native.Mathlib.Omega.{arith}
use lib.Dec.{ltb}
use lib.IntN.{ℤ, pos, negsuc, nat_abs}
use lib.ListN.{length, length-append}
use lib.Signed.{le_z}
use borrow.Author.Tests.{ltb-false, lt-ltb, le-ltb, le-leb}
use Rattle.text_pieces.specs.Pieces.{digit, decimal_in, decimal, minus, number, signed, max_digits, number_width, signed_width, Put}
use Rattle.text_pieces.proofs.PutLaws.{put-within, put_then}

-- more digits than are needed change nothing
in-enough : (k j n : ℕ) → n < k → n < j → decimal_in k n ≡ decimal_in j n
unfolding decimal_in
in-enough zero j n h l = absurd (omega arith)
in-enough (suc k) zero n h l = absurd (omega arith)
in-enough (suc k) (suc j) n h l = go (ltb n 10) refl (in-enough k j (n / 10))
  where
    go : (b : Bool) → ltb n 10 ≡ b → (n / 10 < k → n / 10 < j → decimal_in k (n / 10) ≡ decimal_in j (n / 10))
        → cond b (digit n ∷ []) (decimal_in k (n / 10) ++ (digit (n % 10) ∷ [])) ≡ cond b (digit n ∷ [])
        (decimal_in j (n / 10) ++ (digit (n % 10) ∷ []))
    go true e same = refl
    go false e same = rw (same (omega (arith, ltb-false n 10 e)) (omega (arith, ltb-false n 10 e)))

-- a single digit
pub decimal-one : (n : ℕ) → n < 10 → decimal n ≡ digit n ∷ []
unfolding decimal_in decimal
decimal-one n h = rw (lt-ltb n 10 h)

-- the last of several digits
pub decimal-more : (n : ℕ) → 10 ≤ n → decimal n ≡ decimal (n / 10) ++ (digit (n % 10) ∷ [])
unfolding decimal_in decimal
decimal-more n h = rw (le-ltb n 10 h, in-enough n (suc (n / 10)) (n / 10) (omega arith) (omega arith))

-- a number below 10 to the k has at most k digits
in-few : (j k n : ℕ) → n < 10 ^ suc k → length (decimal_in j n) ≤ suc k
unfolding decimal_in
in-few zero k n h = omega arith
in-few (suc j) zero n h = rw (lt-ltb n 10 (rw pow-succ' at h)) (omega arith)
in-few (suc j) (suc k) n h = go (ltb n 10) (in-few j k (n / 10) ((div-lt_iff_lt-mul (omega arith)).1 (rw pow-suc at h)))
  where
    go : (b : Bool) → length (decimal_in j (n / 10)) ≤ suc k → length (cond b (digit n ∷ [])
        (decimal_in j (n / 10) ++ (digit (n % 10) ∷ []))) ≤ suc (suc k)
    go true l = omega arith
    go false l = rw length-append (omega arith)

pub decimal-few : (k n : ℕ) → n < 10 ^ suc k → length (decimal n) ≤ suc k
unfolding decimal
decimal-few k n h = in-few (suc n) k n h

-- ---- a 64-bit number stored digit by digit

module _ {n at next : ℕ} {was now : List ℕ} where
  pub put_first : n < 10 → Put 1 (digit n ∷ []) was at now next → Put max_digits (decimal n) was at now next
  put_first h p = rw (decimal-one n h) (put-within p (omega arith))

  pub put_last : {mid : List ℕ} {last : ℕ} → 10 ≤ n → n < 2 ^ 64 → Put max_digits (decimal (n / 10)) was at mid last
      → Put 1 (digit (n % 10) ∷ []) mid last now next → Put max_digits (decimal n) was at now next
  put_last {mid} {last} h fits p q =
      let few : length (decimal n) ≤ max_digits = decimal-few 19 n (omega arith) in
      rw (decimal-more n h) (put-within (put_then p q) (rw (decimal-more n h) at few))

-- ---- with a sign

signed_up : (z : ℤ) (end : ℕ) → le_z (pos 0) z ≡ true → number (nat_abs z) end ≡ signed z end
unfolding signed
signed_up (pos n) end e = refl
signed_up (negsuc n) end e = absurd (false≢true e)

signed-down : (z : ℤ) (end : ℕ) → le_z (pos 0) z ≡ false → minus ∷ number (nat_abs z) end ≡ signed z end
unfolding signed
signed-down (pos n) end e = absurd (false≢true (sym e ∙ le-leb 0 n zero-le))
signed-down (negsuc n) end e = refl

-- z as the machine reads it, and its size
module _ (z : ℤ) (end : ℕ) {x : ℤ} (read : x ≡ z) {n : ℕ} (size : n ≡ nat_abs x) {at next : ℕ} {was now : List ℕ} where
  pub put_up : le_z (pos 0) x ≡ true → Put number_width (number n end) was at now next → Put signed_width (signed z end) was at now next
  put_up e p =
      let piece : number n end ≡ signed z end = ap (λ k. number k end) (size ∙ ap nat_abs read) ∙ signed_up z end (rw read at e) in
      rw (← piece) (put-within p (omega (arith, p.most)))

  pub put-down : {mid : List ℕ} {last : ℕ} → le_z (pos 0) x ≡ false → Put 1 (minus ∷ []) was at mid last
      → Put number_width (number n end) mid last now next → Put signed_width (signed z end) was at now next
  put-down e m p =
      let piece : minus ∷ number n end ≡ signed z end = ap (λ k. minus ∷ number k end) (size ∙ ap nat_abs read) ∙ signed-down z end (rw read at e) in
      rw (← piece) (put_then m p)
