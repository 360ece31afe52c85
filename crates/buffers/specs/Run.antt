-- Stretches of numbers strung together.
use Rattle.std.specs.Prelude.{ℕ, zero, suc, List, [], ◌++◌}

-- f 0, f 1, .. f (k - 1), one after the other
unfoldable pub run : (ℕ → List ℕ) → ℕ → List ℕ
run f zero = []
run f (suc k) = run f k ++ f k
