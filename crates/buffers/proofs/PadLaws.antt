-- A buffer that held zeros reads 0 beyond what was stored, as the stored numbers alone do.
use Prim.Native.Nat.{ℕ, zero, suc, ◌+◌, ◌<◌}
use mathlib.Core.List.{List, [], ◌∷◌, ◌++◌}
use mathlib.Core.Path.{◌≡◌, refl, ◌∙◌}
use native.Mathlib.Omega.{arith}
use lib.ListN.{length, get_or, drop, length-replicate}
use lib.Seq.{get_or-drop}
use Rattle.buffers.specs.Run.{run}
use Rattle.buffers.specs.Over.{over, zeros}

pub zeros-size : (k : ℕ) → length (zeros k) ≡ k
zeros-size k = length-replicate {A = ℕ} k 0

pub zero-at : (k i : ℕ) → ◌≡◌ {A = ℕ} (get_or (zeros k) i 0) 0
zero-at zero i = refl
zero-at (suc k) zero = refl
zero-at (suc k) (suc i) = zero-at k i

padded : (xs : List ℕ) (j k i : ℕ) → get_or (xs ++ drop j (zeros k)) i 0 ≡ get_or xs i 0
padded [] j k i = get_or-drop j (zeros k) i 0 ∙ zero-at k (j + i)
padded (x ∷ xs) j k zero = refl
padded (x ∷ xs) j k (suc i) = padded xs j k i

pub over_zeros : (xs : List ℕ) (k i : ℕ) → get_or (over xs (zeros k)) i 0 ≡ get_or xs i 0
over_zeros xs k i = padded xs (length xs) k i

-- stretches that are the same one by one
pub run-same : (f g : ℕ → List ℕ) (k : ℕ) → ((i : ℕ) → i < k → f i ≡ g i) → run f k ≡ run g k
unfolding run
run-same f g zero h = refl
run-same f g (suc k) h = rw (run-same f g k (λ i l. h i (omega arith)), h k (omega arith))
