-- The first place at which a whole number with sign is lowest.
use Rattle.std.specs.Prelude.{cond, ℕ, zero, suc, ℤ}
use Rattle.std.specs.Int.Signed.{lt_z}

-- of the places 0 to k - 1, the first with the lowest number; 0 if there are none
unfoldable pub lowest : (ℕ → ℤ) → ℕ → ℕ
lowest f zero = 0
lowest f (suc k) = let so_far : ℕ = lowest f k in cond (lt_z (f k) (f so_far)) k so_far
