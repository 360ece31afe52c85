-- Stretches of one width strung together: how long they are, what stands where, and when they make up a given list.
use mathlib.Core.Path.{◌≡◌, refl, sym, ◌∙◌}
use mathlib.Core.List.{List, [], ◌∷◌, ◌++◌}
use mathlib.Core.Logic.{◌⊎◌, inl, inr}
use Prim.Native.Nat.{ℕ, zero, suc, ◌+◌, ◌*◌, ◌<◌, ◌≤◌}
use native.Mathlib.Nat.{eq-or-lt_of_le, le_of_suc-le-suc, mul-zero, mul-suc, mul-le-mul_left}
use native.Mathlib.Numerals.{add-one}
use native.Mathlib.Omega.{arith}
use lib.ListN.{length, get_or, take, drop, length-append, get_or-append}
use lib.Seq.{take_all, take-add, drop-cons, get_or-append-add}
use Rattle.buffers.specs.Run.{run}

module _ (f : ℕ → List ℕ) (w : ℕ) (wide : (k : ℕ) → length (f k) ≡ w) where
  pub run_length : (m : ℕ) → length (run f m) ≡ w * m
  unfolding run
  run_length zero = sym (mul-zero w)
  run_length (suc m) = rw (length-append, run_length m, wide m, mul-suc)

  -- number j of stretch k
  pub run_at : (m k j : ℕ) → k < m → j < w → get_or (run f m) (w * k + j) 0 ≡ get_or (f k) j 0
  unfolding run
  run_at zero k j h l = absurd (omega arith)
  run_at (suc m) k j h l = go (eq-or-lt_of_le (le_of_suc-le-suc h)) (run_at m k j)
    where
      go : (k ≡ m) ⊎ (k < m) → (k < m → j < w → get_or (run f m) (w * k + j) 0 ≡ get_or (f k) j 0)
          → get_or (run f m ++ f m) (w * k + j) 0 ≡ get_or (f k) j 0
      go (inl e) before = rw (e, ← run_length m, get_or-append-add (run f m) (f m) j 0)
      go (inr b) before =
          let inside : w * k + j < length (run f m) = omega (arith, run_length m, mul-le-mul_left w b, mul-suc w k) in
          get_or-append (run f m) (f m) 0 (w * k + j) inside ∙ before b l

  -- they make up a list, if each is the stretch of it at its place
  module _ (xs : List ℕ) (m : ℕ) (each : (k : ℕ) → k < m → f k ≡ take w (drop (w * k) xs)) where
    up_to : (k : ℕ) → k ≤ m → run f k ≡ take (w * k) xs
    unfolding run
    up_to zero h = rw mul-zero
    up_to (suc k) h = rw (up_to k (omega arith), each k h, mul-suc, take-add)

    pub run-front : run f m ≡ take (w * m) xs
    run-front = up_to m (omega arith)

    pub run_is : length xs ≡ w * m → run f m ≡ xs
    run_is e = run-front ∙ take_all (w * m) xs (omega arith)

-- stretches of at most w numbers
pub run-most : (f : ℕ → List ℕ) (w k : ℕ) → ((i : ℕ) → i < k → length (f i) ≤ w) → length (run f k) ≤ w * k
unfolding run
run-most f w zero h = omega arith
run-most f w (suc k) h = rw (length-append, mul-suc) (omega (arith, run-most f w k (λ i l. h i (omega arith)), h k (omega arith)))

-- ---- a stretch of a list, number by number

-- w numbers from place i on
abbrev pub stretch : ℕ → List ℕ → ℕ → List ℕ
stretch zero xs i = []
stretch (suc w) xs i = get_or xs i 0 ∷ stretch w xs (i + 1)

pub take-stretch : (w : ℕ) (xs : List ℕ) (i : ℕ) → i + w ≤ length xs → take w (drop i xs) ≡ stretch w xs i
take-stretch zero xs i h = refl
take-stretch (suc w) xs i h =
    rw (drop-cons xs i 0 (omega arith), ← add-one i, take-stretch w xs (i + 1) (omega arith))
