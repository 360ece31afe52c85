-- A whole number with sign as a word: nothing is lost where it has 64 bits, and how the word is worked out.
use Rattle.std.proofs.Common.{◌≡◌, ℕ, suc, ◌+◌, ◌-◌, ◌^◌, ◌<◌, ◌≤◌, ℤ, pos, negsuc, refl, ap, arith, w64, of_z, le-ltb, lt-ltb}
use lib.Signed.{mag}
use Rattle.words.specs.Signed.{signed_word, signed_of}

-- the word of -1
abbrev pub largest : ℕ
largest = 18_446_744_073_709_551_615

-- twice taken from the whole
twice : (full n : ℕ) → n < full → full - suc (full - suc n) ≡ n
twice full n h = omega arith

upper : (half full n : ℕ) → half + half ≡ full → n < half → half ≤ full - suc n
upper half full n e h = omega arith

half_full : {n : ℕ} → n < 2 ^ 63 → n < 2 ^ 64
half_full {n} h = go (2 ^ 63) (2 ^ 64) refl h
  where
    go : (half full : ℕ) → half + half ≡ full → n < half → n < full
    go half full e l = omega arith

pub signed_back : (z : ℤ) → mag z < 2 ^ 63 → signed_of (signed_word z) ≡ z
unfolding signed_word signed_of
signed_back (pos n) h = rw (lt-ltb n (2 ^ 63) h)
signed_back (negsuc n) h =
    rw (le-ltb (2 ^ 64 - suc n) (2 ^ 63) (upper (2 ^ 63) (2 ^ 64) n refl h)) (ap negsuc (twice (2 ^ 64) n (half_full h)))

-- ---- worked out

-- the bits of a number of 64 bits, read without a sign
pub bits_word : (z : ℤ) → of_z w64 z ≡ signed_word z
unfolding signed_word
bits_word (pos n) = refl
bits_word (negsuc n) = refl
