-- Where a byte stands, and how far reading goes: the loops over the bytes before it, as the invariants `Placing` and `Going`.
use Prim.Native.Nat.{ℕ, suc, ◌+◌, ◌≤◌, ◌<◌}
use mathlib.Core.Bool.{Bool, true, false, cond}
use mathlib.Core.List.{List, [], ◌∷◌, ◌++◌}
use mathlib.Core.Path.{◌≡◌, refl}
use native.Mathlib.Numerals.{add-one}
use native.Mathlib.Omega.{arith}
use lib.Dec.{eqb}
use lib.ListN.{length, take, drop, get_or, drop_of_length-le}
use lib.Seq.{take-suc, drop-cons}
use Rattle.text_pieces.specs.Pieces.{newline}
use Rattle.scan.specs.declared.State.{State}
use Rattle.scan.specs.declared.Place.{Place}
use Rattle.scan.specs.Scan.{text_bytes, start, step, first_place, next_place, place_after, place_of, stops, goes_to}
use Rattle.scan.specs.Scan.{StateIn, PlaceIn, GoesTo}
use Rattle.scan.proofs.StateLaws.{step_in}

-- ---- the place

place-one : (p : Place) (bs : List ℕ) (b : ℕ) → place_after p (bs ++ (b ∷ [])) ≡ next_place (place_after p bs) b
unfolding place_after
place-one p [] b = refl
place-one p (x ∷ bs) b = place-one (next_place p x) bs b

-- p is the place of byte i, of those up to `at`
pub record Placing (ts : List ℕ) (at : ℕ) (p : Place) (i : ℕ) : Type 0 where
  pub bound : i ≤ at
  pub is : p ≡ place_of ts i
  pub line : p.line ≤ i + 1
  pub column : p.column ≤ i + 1

-- a byte moves line and column one further at most
record Near (p q : Place) : Type 0 where
  line : q.line ≤ p.line + 1
  column : q.column ≤ p.column + 1

near : (p : Place) (byte : ℕ) → Near p (next_place p byte)
unfolding next_place
near p byte = go (eqb byte newline)
  where
    go : (b : Bool) → Near p (cond b (record { line = p.line + 1; column = 1 }) (record { line = p.line; column = p.column + 1 }))
    go true = record { line = omega arith; column = omega arith }
    go false = record { line = omega arith; column = omega arith }

module _ {ts : List ℕ} {at : ℕ} where
  pub placing-start : Placing ts at first_place 0
  unfolding place_after
  placing-start = record { bound = omega arith; is = refl; line = omega arith; column = omega arith }

  module _ {p : Place} {i : ℕ} (w : Placing ts at p i) where
    pub placing-in : i < at → at ≤ text_bytes → PlaceIn p
    placing-in l few = record { line = omega (arith, w.line); column = omega (arith, w.column) }

    pub placing-turn : {q : Place} → i < at → at ≤ length ts → q ≡ next_place p (get_or ts i 0) → Placing ts at q (i + 1)
    placing-turn {q} l h e =
        let byte : ℕ = get_or ts i 0 in
        let one : take (i + 1) ts ≡ take i ts ++ (byte ∷ []) = rw (add-one i, take-suc ts i 0 (omega arith)) in
        let n : Near p q = rw e (near p byte) in
        record {
          bound = omega arith;
          is = rw (one, place-one first_place (take i ts) byte, ← w.is) e;
          line = omega (arith, n.line, w.line);
          column = omega (arith, n.column, w.column);
        }

    pub placing-end : at ≤ i → p ≡ place_of ts at
    placing-end h =
        let e : i ≡ at = omega (arith, w.bound) in
        rw e at w.is

-- ---- how far reading goes

-- what is left after i bytes is what the whole comes to
pub record Going (enough : ℕ) (lined : Bool) (ts : List ℕ) (s : State) (i : ℕ) : Type 0 where
  pub bound : i ≤ length ts
  pub within : StateIn s
  pub whole : goes_to enough (start lined) ts ≡ i + goes_to enough s (drop i ts)

module _ {enough : ℕ} {lined : Bool} {ts : List ℕ} where
  pub going_start : {s : State} → s ≡ start lined → Going enough lined ts s 0
  going_start e =
      record { bound = omega arith; within = rw e (record { needs = omega arith; first = omega arith; count = omega arith }); whole = rw e (omega arith) }

  module _ {s : State} {i : ℕ} (w : Going enough lined ts s i) where
    module _ {t : State} (l : i < length ts) (e : t ≡ step s (get_or ts i 0)) where
      left : drop i ts ≡ get_or ts i 0 ∷ drop (i + 1) ts
      left = rw add-one (drop-cons ts i 0 l)

      pub going-stop : stops enough t ≡ true → GoesTo enough lined ts i
      unfolding goes_to
      going-stop h =
          let here : goes_to enough s (drop i ts) ≡ 0 = rw (left, ← e, h) in
          record { index = omega (arith, w.whole, here); bound = omega arith }

      pub going-turn : stops enough t ≡ false → Going enough lined ts t (i + 1)
      unfolding goes_to
      going-turn h =
          let here : goes_to enough s (drop i ts) ≡ suc (goes_to enough t (drop (i + 1) ts)) = rw (left, ← e, h) in
          record { bound = omega arith; within = rw e (step_in s (get_or ts i 0) w.within); whole = omega (arith, w.whole, here) }

    pub going_end : length ts ≤ i → GoesTo enough lined ts (length ts)
    unfolding goes_to
    going_end h =
        let none : drop i ts ≡ [] = drop_of_length-le ts {i = i} h in
        let here : goes_to enough s (drop i ts) ≡ 0 = rw none in
        record { index = omega (arith, w.whole, here, w.bound); bound = omega arith }
