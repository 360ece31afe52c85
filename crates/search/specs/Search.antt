-- The least number in a range that passes a test.
use Rattle.std.specs.Prelude.{Bool, cond, ℕ, zero, suc, ◌-◌}

-- the first of t, t + 1, .. that passes; t + k if none of these k does
unfoldable pub first_from : (ℕ → Bool) → ℕ → ℕ → ℕ
first_from f t zero = t
first_from f t (suc k) = let later : ℕ = first_from f (suc t) k in cond (f t) t later

-- the first number from low on that passes; high if none before it does
unfoldable pub least : (ℕ → Bool) → ℕ → ℕ → ℕ
least f low high = first_from f low (high - low)
