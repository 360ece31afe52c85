-- Needs that are all 0, and the needs that the words of a list say.
use Prim.Native.Nat.{ℕ, zero, suc, ◌+◌, ◌-◌, ◌*◌, ◌^◌, ◌<◌, ◌≤◌}
use mathlib.Core.Bool.{Bool, true, false, cond, ◌&&◌}
use mathlib.Core.List.{List, [], ◌∷◌, ◌++◌}
use mathlib.Core.Logic.{◌⊎◌, inl, inr}
use mathlib.Core.Path.{◌≡◌, refl, sym, ◌∙◌, ap}
use native.Mathlib.Nat.{eq-or-lt_of_le, le_of_suc-le-suc}
use native.Mathlib.Numerals.{add-one}
use native.Mathlib.Omega.{arith}
use lib.Dec.{eqb}
use Rattle.std.specs.List.{list_all}
use lib.ListN.{length, get_or}
use borrow.Author.Tests.{eqb-true, eq-eqb, ne_eqb, lt-ltb, le-ltb}
use Rattle.timing.specs.declared.Pair.{Pair}
use Rattle.timing.proofs.RuleLaws.{and-true}
use Rattle.words.specs.Word.{register_bits, kind_needs, kind_of, hold_of, setup_of}
use Rattle.buffers.specs.Run.{run}
use Rattle.buffers.proofs.RunLaws.{run_length, run_at}
use Rattle.list_format.specs.Lists.{word, registers, need_words_by, need_words, hold_at, setup_at, two_at, needs_of, counting, counting_needs, no_needs}

-- ---- all needs are 0, or one is not

and-false : (a : Bool) {b : Bool} → b ≡ false → a && b ≡ false
and-false true e = e
and-false false e = refl

pub none_needed : (xs : List ℕ) → ((i : ℕ) → i < length xs → get_or xs i 0 ≡ 0) → no_needs xs ≡ true
unfolding no_needs
none_needed [] h = refl
none_needed (x ∷ xs) h = rw (eq-eqb x 0 (h 0 (omega arith))) (none_needed xs (λ i l. h (suc i) (omega arith)))

pub some-needed : (xs : List ℕ) (i : ℕ) → (get_or xs i 0 ≡ 0 → ⊥) → no_needs xs ≡ false
unfolding no_needs
some-needed [] i h = absurd (h refl)
some-needed (x ∷ xs) zero h = rw (ne_eqb x 0 h)
some-needed (x ∷ xs) (suc i) h = and-false (eqb x 0) (some-needed xs i h)

-- and back: every one is 0
pub need-zero : (xs : List ℕ) → no_needs xs ≡ true → (i : ℕ) → get_or xs i 0 ≡ 0
unfolding no_needs
need-zero [] e i = refl
need-zero (x ∷ xs) e zero = eqb-true x 0 (and-true (eqb x 0) (no_needs xs) e).0
need-zero (x ∷ xs) e (suc i) = need-zero xs (and-true (eqb x 0) (no_needs xs) e).1 i

-- all needs are 0 where each is
pub all-zero : (xs : List ℕ) → list_all (λ x. eqb x 0) xs ≡ no_needs xs
unfolding no_needs
all-zero [] = refl
all-zero (x ∷ xs) = ap (λ b. eqb x 0 && b) (all-zero xs)

-- stretch by stretch
needs-append : (xs ys : List ℕ) → no_needs (xs ++ ys) ≡ no_needs xs && no_needs ys
unfolding no_needs
needs-append [] ys = refl
needs-append (x ∷ xs) ys = go (eqb x 0) (needs-append xs ys)
  where
    go : (first : Bool) → no_needs (xs ++ ys) ≡ no_needs xs && no_needs ys → first && no_needs (xs ++ ys) ≡ (first && no_needs xs) && no_needs ys
    go true e = e
    go false e = refl

module _ (f : ℕ → List ℕ) where
  pub none_more : (k : ℕ) → no_needs (run f k) ≡ true → no_needs (f k) ≡ true → no_needs (run f (suc k)) ≡ true
  unfolding run
  none_more k e h = rw (needs-append (run f k) (f k), e) h

  pub none_each : (k : ℕ) → ((i : ℕ) → i < k → no_needs (f i) ≡ true) → no_needs (run f k) ≡ true
  unfolding run no_needs
  none_each zero h = refl
  none_each (suc k) h = none_more k (none_each k (λ i l. h i (omega arith))) (h k (omega arith))

  pub some_one : (k i : ℕ) → i < k → no_needs (f i) ≡ false → no_needs (run f k) ≡ false
  unfolding run
  some_one zero i l h = absurd (omega arith)
  some_one (suc k) i l h = needs-append (run f k) (f k) ∙ go (eq-or-lt_of_le (le_of_suc-le-suc l)) (λ b. some_one k i b h)
    where
      go : (i ≡ k) ⊎ (i < k) → (i < k → no_needs (run f k) ≡ false) → no_needs (run f k) && no_needs (f k) ≡ false
      go (inl e) before = and-false (no_needs (run f k)) (rw (← e) h)
      go (inr b) before = rw (before b)

-- ---- the words of needs

module _ (ws : List ℕ) where
  -- there is one for each register, or none
  pub needs-all : 0 < need_words ws → need_words ws ≡ registers ws
  unfolding need_words_by
  needs-all = go (eqb (kind_of (word ws 1)) kind_needs)
    where
      go : (is : Bool) → 0 < cond is (registers ws) 0 → cond is (registers ws) 0 ≡ registers ws
      go true h = refl
      go false h = absurd (omega arith)

  -- as many as fit the head
  pub needs-few : need_words ws < 2 ^ register_bits
  unfolding need_words_by
  needs-few = go (eqb (kind_of (word ws 1)) kind_needs)
    where
      go : (is : Bool) → cond is (registers ws) 0 < 2 ^ register_bits
      go true = omega arith
      go false = omega arith

  -- by the kind of the second word
  pub needs-present : kind_of (word ws 1) ≡ kind_needs → need_words ws ≡ registers ws
  unfolding need_words_by
  needs-present e = rw (eq-eqb (kind_of (word ws 1)) kind_needs e)

  pub needs-absent : (kind_of (word ws 1) ≡ kind_needs → ⊥) → need_words ws ≡ 0
  unfolding need_words_by
  needs-absent h = rw (ne_eqb (kind_of (word ws 1)) kind_needs h)

  module _ {r : ℕ} where
    pub hold_at_lem : r < need_words ws → hold_at ws r ≡ hold_of (word ws (1 + r))
    unfolding hold_at
    hold_at_lem h = rw (lt-ltb r (need_words ws) h)

    pub hold-none : need_words ws ≤ r → hold_at ws r ≡ 0
    unfolding hold_at
    hold-none h = rw (le-ltb r (need_words ws) h)

    pub setup-at : r < need_words ws → setup_at ws r ≡ setup_of (word ws (1 + r))
    unfolding setup_at
    setup-at h = rw (lt-ltb r (need_words ws) h)

    pub setup-none : need_words ws ≤ r → setup_at ws r ≡ 0
    unfolding setup_at
    setup-none h = rw (le-ltb r (need_words ws) h)

  -- two numbers for each register
  pub needs-length : length (needs_of ws) ≡ 2 * registers ws
  needs-length = run_length (two_at ws) 2 (λ r. refl) (registers ws)

  pub need-at : (r : ℕ) → r < registers ws → (j : ℕ) → j < 2 → get_or (needs_of ws) (2 * r + j) 0 ≡ get_or (two_at ws r) j 0
  need-at r h j b = run_at (two_at ws) 2 (λ i. refl) (registers ws) r j h b

  -- without words of needs all are 0
  pub needs-none : need_words ws ≡ 0 → no_needs (needs_of ws) ≡ true
  needs-none e = none_each (two_at ws) (registers ws) (λ r h. none_needed (two_at ws r) (each r))
    where
      each : (r i : ℕ) → i < 2 → get_or (two_at ws r) i 0 ≡ 0
      each r zero l = hold-none (omega arith)
      each r (suc zero) l = setup-none (omega arith)
      each r (suc (suc i)) l = refl

  -- ---- a loop over the words of needs that looks for one that is not 0

  -- the needs of the first r registers are 0
  pub record NoneTo (needs r : ℕ) : Type 0 where
    pub bound : r ≤ needs
    pub none : no_needs (run (two_at ws) r) ≡ true

  module _ {needs : ℕ} (all : needs ≡ need_words ws) where
    pub none-start : NoneTo needs 0
    unfolding run no_needs
    none-start = record { bound = omega arith; none = refl }

    module _ {r : ℕ} (h : r < needs) where
      pub none-turn : NoneTo needs r → hold_of (word ws (1 + r)) ≡ 0 → setup_of (word ws (1 + r)) ≡ 0 → NoneTo needs (r + 1)
      unfolding no_needs
      none-turn t hold setup =
          let two : no_needs (two_at ws r) ≡ true =
          rw (
            hold_at_lem {r = r} (omega arith),
            setup-at {r = r} (omega arith),
            eq-eqb (hold_of (word ws (1 + r))) 0 hold,
            eq-eqb (setup_of (word ws (1 + r))) 0 setup,
          ) in
          record { bound = omega arith; none = rw add-one (none_more (two_at ws) r t.none two) }

      found : (j : ℕ) → (get_or (two_at ws r) j 0 ≡ 0 → ⊥) → false ≡ no_needs (needs_of ws)
      found j some =
          let below : r < registers ws = omega (arith, needs-all (omega arith)) in
          sym (some_one (two_at ws) (registers ws) r below (some-needed (two_at ws r) j some))

      pub found-hold : (hold_of (word ws (1 + r)) ≡ 0 → ⊥) → false ≡ no_needs (needs_of ws)
      found-hold some = found 0 (λ e. some (sym (hold_at_lem {r = r} (omega arith)) ∙ e))

      pub found-setup : (setup_of (word ws (1 + r)) ≡ 0 → ⊥) → false ≡ no_needs (needs_of ws)
      found-setup some = found 1 (λ e. some (sym (setup-at {r = r} (omega arith)) ∙ e))

    pub none_end : {r : ℕ} → 0 < needs → NoneTo needs r → needs ≤ r → true ≡ no_needs (needs_of ws)
    none_end {r} some t l =
        let e : r ≡ registers ws = omega (arith, t.bound, needs-all (omega arith)) in
        sym (ap (λ k. no_needs (run (two_at ws) k)) (sym e) ∙ t.none)

  -- ---- counted into a pair

  module _ (p : Pair) where
    pub counting-none : need_words ws ≡ 0 → p ≡ counting_needs ws p
    counting-none e =
        let less : p.least - 0 ≡ p.least = omega arith in
        let more : p.greatest + 0 ≡ p.greatest = omega arith in
        rw (hold-none {r = p.capture} (omega arith), setup-none {r = p.capture} (omega arith), less, more)

    pub counting-at : p.capture < need_words ws
        → counting (hold_of (word ws (1 + p.capture))) (setup_of (word ws (1 + p.capture))) p ≡ counting_needs ws p
    counting-at h = rw (hold_at_lem h, setup-at h)
