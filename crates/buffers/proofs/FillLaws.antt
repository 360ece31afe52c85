-- A buffer that is filled from the front, stretch by stretch.
use mathlib.Core.Path.{◌≡◌, refl, sym, ◌∙◌, ap}
use mathlib.Core.List.{List, [], ◌∷◌, ◌++◌, append_assoc, append-nil}
use Prim.Native.Nat.{ℕ, ◌+◌, ◌-◌, ◌*◌, ◌≤◌, ◌<◌}
use native.Mathlib.Nat.{mul-le-mul_left, mul-suc}
use native.Mathlib.Numerals.{add-one}
use native.Mathlib.Omega.{arith}
use lib.ListN.{length, get_or, take, drop, set, length-append, length-drop, take-append-drop}
use lib.Seq.{length-take-le, take_at, get_or-append-add, get_or-drop, drop-append-add, drop-drop, set_split, sets, sets-eq}
use Rattle.buffers.specs.Run.{run}
use Rattle.buffers.specs.Over.{over}
use Rattle.buffers.proofs.RunLaws.{run_length}

-- `now` is the buffer `was` with xs in its first places
pub record Filled (xs was now : List ℕ) : Type 0 where
  pub room : length xs ≤ length was
  pub is : now ≡ over xs was

pub filled_none : (was : List ℕ) → Filled [] was was
filled_none was = record { room = omega arith; is = refl }

-- its first k places count as filled with what stands there
pub filled-self : (k : ℕ) (was : List ℕ) → k ≤ length was → Filled (take k was) was was
filled-self k was h =
    let e = length-take-le k was h in
    record { room = omega (arith, e); is = rw e (sym (take-append-drop k was)) }

module _ {xs was now : List ℕ} (f : Filled xs was now) where
  -- the buffer keeps its length
  pub filled-size : length now ≡ length was
  filled-size = rw (f.is, length-append, length-drop) (omega (arith, f.room))

  -- the places behind are as they were
  pub filled-later : (i : ℕ) → length xs ≤ i → get_or now i 0 ≡ get_or was i 0
  filled-later i h =
      let place : i ≡ length xs + (i - length xs) = omega arith in
      ap (λ (ys : List ℕ). get_or ys i 0) f.is
      ∙ ap (λ k. get_or (over xs was) k 0) place
      ∙ get_or-append-add xs (drop (length xs) was) (i - length xs) 0
      ∙ get_or-drop (length xs) was (i - length xs) 0
      ∙ ap (λ k. get_or was k 0) (sym place)

  -- one stretch more, stored at the place reached
  pub filled_put : (vs after : List ℕ) {at : ℕ} → at ≡ length xs → at + length vs ≤ length was
      → after ≡ take at now ++ (vs ++ drop (at + length vs) now)
      → Filled (xs ++ vs) was after
  filled_put vs after {at} e h s =
      record {
        room = rw length-append (omega arith);
        is = rw (s, e, f.is, take_at xs (drop (length xs) was) (length xs) refl, drop-append-add, drop-drop, length-append, append_assoc);
      }

-- stores at places that follow one another, as a stretch
pub sets-put : (vs now : List ℕ) (at : ℕ) → at + length vs ≤ length now → sets now at vs ≡ take at now ++ (vs ++ drop (at + length vs) now)
sets-put vs now at h = sets-eq vs now at h ∙ append_assoc (take at now) vs (drop (at + length vs) now)

-- a store at one place, as a stretch of one number
pub set-put : (now : List ℕ) (at v : ℕ) → at < length now → set now at v ≡ take at now ++ ((v ∷ []) ++ drop (at + 1) now)
set-put now at v h = set_split now at v h ∙ ap (λ k. take at now ++ (v ∷ drop k now)) (sym (add-one at))

-- ---- a loop that stores stretch after stretch, each w numbers wide

-- k of m stretches are stored, after what stood before them
pub record Filling (before : List ℕ) (f : ℕ → List ℕ) (m : ℕ) (was now : List ℕ) (k : ℕ) : Type 0 where
  pub bound : k ≤ m
  pub filled : Filled (before ++ run f k) was now

module _ {before : List ℕ} {f : ℕ → List ℕ} {m : ℕ} {was now : List ℕ} where
  pub filling-start : Filled before was now → Filling before f m was now 0
  unfolding run
  filling-start h = record { bound = omega arith; filled = rw append-nil h }

  pub filling-size : {k : ℕ} → Filling before f m was now k → length now ≡ length was
  filling-size h = filled-size h.filled

  pub filling-end : {k : ℕ} → Filling before f m was now k → m ≤ k → now ≡ over (before ++ run f m) was
  filling-end {k} h l =
      let e : k ≡ m = omega (arith, h.bound) in
      rw (← e) h.filled.is

  -- the next stretch, stored at the place reached
  module _ (w : ℕ) (wide : (k : ℕ) → length (f k) ≡ w) (room : length before + w * m ≤ length was) {k : ℕ} (h : Filling before f m was now k)
      (l : k < m) where
    pub filling-room : length before + w * k + w ≤ length was
    filling-room = omega (arith, mul-le-mul_left w l, mul-suc w k)

    pub filling-turn : (at : ℕ) {after : List ℕ} → at ≡ length before + w * k → after ≡ take at now ++ (f k ++ drop (at + w) now)
        → Filling before f m was after (k + 1)
    unfolding run
    filling-turn at {after} e s =
        let place : at ≡ length (before ++ run f k) = rw (length-append, run_length f w wide k) e in
        let fits : at + length (f k) ≤ length was = omega (arith, wide k, filling-room) in
        let put : after ≡ take at now ++ (f k ++ drop (at + length (f k)) now) = rw (wide k) s in
        record { bound = omega arith; filled = rw (add-one, ← append_assoc before (run f k) (f k)) (filled_put h.filled (f k) after place fits put) }

-- the first places of a buffer that was filled
module _ (xs was : List ℕ) {now : List ℕ} {k : ℕ} (size : length xs ≡ k) (e : now ≡ over xs was) where
  pub filled-front : take k now ≡ xs
  filled-front = rw e (take_at xs (drop (length xs) was) k size)

  pub filled-fits : k ≤ length now
  filled-fits = rw (e, length-append) (omega (arith, size))

-- the first k places were filled, and then those that follow them
pub over-more : (xs ys was : List ℕ) {now : List ℕ} {k : ℕ} → length xs ≡ k → now ≡ over xs was
    → over (take k now ++ ys) now ≡ over (xs ++ ys) was
over-more xs ys was {now} {k} size e = rw (e, take_at xs (drop (length xs) was) k size, length-append xs ys, drop-append-add, drop-drop)

-- a store in the first place, and then what follows it
pub over_first : (was xs : List ℕ) (v : ℕ) → 0 < length was → over (take 1 (set was 0 v) ++ xs) (set was 0 v) ≡ over (v ∷ xs) was
over_first [] xs v h = absurd (omega arith)
over_first (w ∷ was) xs v h = refl

-- lists that agree from place n on agree from every later place on
pub drop-further : (n k : ℕ) (S S' : List ℕ) → n ≤ k → drop n S' ≡ drop n S → drop k S' ≡ drop k S
drop-further n k S S' h e =
    let z : k ≡ n + (k - n) = omega arith in
    rw (z, ← drop-drop (k - n) n S, ← drop-drop (k - n) n S', e)
