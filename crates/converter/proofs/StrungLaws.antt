-- Pairs by their places: what holds of each, what is said of each strung together, and the pairs of a list as they are written.
use Prim.Native.Nat.{ℕ, zero, suc, ◌+◌, ◌*◌, ◌<◌}
use mathlib.Core.List.{List, [], ◌∷◌, ◌++◌, append_assoc, append-nil}
use mathlib.Core.Path.{◌≡◌, refl, sym, ◌∙◌, ap, ap₂, subst}
use native.Mathlib.Omega.{arith}
use lib.ListN.{length, get_or}
use Rattle.timing.specs.declared.Pair.{Pair}
use Rattle.timing.specs.Rules.{pair, Each}
use Rattle.buffers.specs.Run.{run}
use Rattle.buffers.proofs.RunLaws.{run_at}
use Rattle.list_format.specs.Lists.{pair_count, written_at}
use Rattle.list_format.specs.Read.{four_of, numbers_of}
use Rattle.list_format.specs.Write.{given_count, given_pair, three_of}
use Rattle.converter.specs.Convert.{written_from, written_pairs, strung}

-- a pair that stands at no place
abbrev pub no_pair : Pair
no_pair = pair 0 0 0 0

-- ---- what holds of each pair holds at each place

module _ {A : Type 0} (P : A → Type 0) (d : A) where
  pub at_each : (ps : List A) → Each P ps → (k : ℕ) → k < length ps → P (get_or ps k d)
  at_each [] e k h = absurd (omega arith)
  at_each (p ∷ ps) e zero h = e.0
  at_each (p ∷ ps) e (suc k) h = at_each ps e.1 k (omega arith)

  pub each_at : (ps : List A) → ((k : ℕ) → k < length ps → P (get_or ps k d)) → Each P ps
  each_at [] h = tt
  each_at (p ∷ ps) h = (h 0 (omega arith), each_at ps (λ k l. h (suc k) (omega arith)))

-- ---- stretches strung together

-- from the front
run-first : (f : ℕ → List ℕ) (k : ℕ) → run f (suc k) ≡ f 0 ++ run (λ i. f (suc i)) k
unfolding run
run-first f zero = sym (append-nil (f 0))
run-first f (suc k) = ap (λ xs. xs ++ f (suc k)) (run-first f k) ∙ append_assoc (f 0) (run (λ i. f (suc i)) k) (f (suc k))

-- the same one by one
run-same : (f g : ℕ → List ℕ) (m : ℕ) → ((k : ℕ) → k < m → f k ≡ g k) → run f m ≡ run g m
unfolding run
run-same f g zero h = refl
run-same f g (suc m) h = ap₂ (λ (xs ys : List ℕ). xs ++ ys) (run-same f g m (λ k l. h k (omega arith))) (h m (omega arith))

module _ (f : Pair → List ℕ) where
  pub strung-append : (ps qs : List Pair) → strung f (ps ++ qs) ≡ strung f ps ++ strung f qs
  unfolding strung
  strung-append [] qs = refl
  strung-append (p ∷ ps) qs = ap (λ xs. f p ++ xs) (strung-append ps qs) ∙ sym (append_assoc (f p) (strung f ps) (strung f qs))

  pub strung-run : (d : Pair) (ps : List Pair) → strung f ps ≡ run (λ k. f (get_or ps k d)) (length ps)
  unfolding strung run
  strung-run d [] = refl
  strung-run d (p ∷ ps) = ap (λ xs. f p ++ xs) (strung-run d ps) ∙ sym (run-first (λ k. f (get_or (p ∷ ps) k d)) (length ps))

-- ---- four numbers for each pair

pub four-length : (ps : List Pair) → length (strung four_of ps) ≡ 4 * length ps
unfolding strung
four-length [] = refl
four-length (p ∷ ps) = omega (arith, four-length ps)

module _ (ps : List Pair) where
  pub four-count : given_count (strung four_of ps) ≡ length ps
  four-count = omega (arith, four-length ps)

  -- they make the pairs again
  pub four-pair : (d : Pair) (k : ℕ) → k < length ps → given_pair (strung four_of ps) k ≡ get_or ps k d
  four-pair d k h =
      let z : 4 * k ≡ 4 * k + 0 = omega arith in
      rw (at 1 (omega arith), at 2 (omega arith), at 3 (omega arith), z, at 0 (omega arith))
    where
      at : (j : ℕ) → j < 4 → get_or (strung four_of ps) (4 * k + j) 0 ≡ get_or (four_of (get_or ps k d)) j 0
      at j b = ap (λ xs. get_or xs (4 * k + j) 0) (strung-run four_of d ps) ∙ run_at (λ i. four_of (get_or ps i d)) 4 (λ i. refl) (length ps) k j h b

  -- and their words are those of the pairs
  pub threes-is : run (λ k. three_of (given_pair (strung four_of ps) k)) (given_count (strung four_of ps)) ≡ strung three_of ps
  threes-is =
      ap (run (λ k. three_of (given_pair (strung four_of ps) k))) four-count
      ∙ run-same (λ k. three_of (given_pair (strung four_of ps) k)) (λ k. three_of (get_or ps k no_pair)) (length ps)
      (λ k h. ap three_of (four-pair no_pair k h))
      ∙ sym (strung-run three_of no_pair ps)

-- ---- the pairs of a list as they are written

module _ (ws : List ℕ) where
  from-length : (from left : ℕ) → length (written_from ws from left) ≡ left
  unfolding written_from
  from-length from zero = refl
  from-length from (suc left) = ap suc (from-length (from + 1) left)

  from_at : (d : Pair) (from left k : ℕ) → k < left → get_or (written_from ws from left) k d ≡ written_at ws (from + k)
  unfolding written_from
  from_at d from zero k h = absurd (omega arith)
  from_at d from (suc left) zero h =
      let z : from + 0 ≡ from = omega arith in
      rw z
  from_at d from (suc left) (suc k) h =
      let z : from + suc k ≡ from + 1 + k = omega arith in
      rw z (from_at d (from + 1) left k (omega arith))

  pub written-length : length (written_pairs ws) ≡ pair_count ws
  written-length = from-length 0 (pair_count ws)

  pub written-at : (d : Pair) (k : ℕ) → k < pair_count ws → get_or (written_pairs ws) k d ≡ written_at ws k
  written-at d k h =
      let z : 0 + k ≡ k = omega arith in
      from_at d 0 (pair_count ws) k h ∙ ap (written_at ws) z

  -- what holds of each
  module _ (P : Pair → Type 0) where
    pub written-each : ((k : ℕ) → k < pair_count ws → P (written_at ws k)) → Each P (written_pairs ws)
    written-each h =
        each_at P no_pair (written_pairs ws) (λ k l.
        let below : k < pair_count ws = omega (arith, written-length) in
        subst P (sym (written-at no_pair k below)) (h k below))

    pub each-written : Each P (written_pairs ws) → (k : ℕ) → k < pair_count ws → P (written_at ws k)
    each-written e k h = subst P (written-at no_pair k h) (at_each P no_pair (written_pairs ws) e k (omega (arith, written-length)))

  -- their numbers are those of the list
  pub written-numbers : strung four_of (written_pairs ws) ≡ numbers_of ws
  written-numbers =
      strung-run four_of no_pair (written_pairs ws)
      ∙ ap (run (λ k. four_of (get_or (written_pairs ws) k no_pair))) written-length
      ∙ run-same (λ k. four_of (get_or (written_pairs ws) k no_pair)) (λ k. four_of (written_at ws k)) (pair_count ws)
      (λ k h. ap four_of (written-at no_pair k h))
