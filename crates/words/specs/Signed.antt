-- A whole number with sign as a word of 64 bits, in two's complement, and back.
use Rattle.std.specs.Prelude.{ℕ, suc, ◌-◌, ◌^◌, cond, ℤ, pos, negsuc, nat_lt}

-- n, or what is left of 2 ^ 64 for -(n + 1)
unfoldable pub signed_word : ℤ → ℕ
signed_word (pos n) = n
signed_word (negsuc n) = 2 ^ 64 - suc n

-- words from 2 ^ 63 on are those of negative numbers
unfoldable pub signed_of : ℕ → ℤ
signed_of w = cond (nat_lt w (2 ^ 63)) (pos w) (negsuc (2 ^ 64 - suc w))
