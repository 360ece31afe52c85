-- Pieces of text stored one after the other make one piece.
use Prim.Native.Nat.{ℕ, ◌+◌, ◌*◌, ◌≤◌, ◌<◌}
use mathlib.Core.List.{List, [], ◌∷◌, ◌++◌, append_assoc, append-nil}
use mathlib.Core.Path.{◌≡◌, refl, sym, ◌∙◌, ap}
use native.Mathlib.Nat.{mul-zero, mul-suc, mul-le-mul_left}
use native.Mathlib.Numerals.{add-one}
use native.Mathlib.Omega.{arith}
use lib.ListN.{length, take, drop, set, length-append}
use lib.Seq.{length-take-le}
use Rattle.buffers.specs.Run.{run}
use Rattle.buffers.specs.Over.{over}
use Rattle.buffers.proofs.FillLaws.{Filled, filled-self, filled-size, filled_put, set-put}
use Rattle.text_pieces.specs.Pieces.{Put}

-- a piece in its place
placed : (was p : List ℕ) (at : ℕ) → at ≤ length was → take at was ++ (p ++ drop (at + length p) was) ≡ over (take at was ++ p) was
placed was p at h = rw (length-append, length-take-le at was h, append_assoc)

-- nothing stored
pub put-none : (was : List ℕ) (at : ℕ) → at ≤ length was → Put 0 [] was at was at
put-none was at h =
    record { most = omega arith; room = omega arith; after = omega arith; is = rw append-nil (filled-self at was h).is }

-- one byte stored
pub put_one : (was : List ℕ) (at v : ℕ) → at < length was → Put 1 (v ∷ []) was at (set was at v) (at + 1)
put_one was at v h =
    record { most = omega arith; room = omega arith; after = refl; is = set-put was at v h ∙ placed was (v ∷ []) at (omega arith) }

module _ {w : ℕ} {p was now : List ℕ} {at next : ℕ} (a : Put w p was at now next) where
  reach : length (take at was ++ p) ≡ next
  reach = rw (length-append, length-take-le at was (omega (arith, a.room))) (sym a.after)

  filled : Filled (take at was ++ p) was now
  filled = record { room = omega (arith, reach, a.room, a.after); is = a.is }

  -- the buffer keeps its length
  pub put-size : length now ≡ length was
  put-size = filled-size filled

  -- the next piece
  pub put_then : {v : ℕ} {q after : List ℕ} {last : ℕ} → Put v q now next after last → Put (w + v) (p ++ q) was at after last
  put_then {v} {q} {after} {last} b =
      let fits : next + length q ≤ length was = omega (arith, put-size, b.room) in
      let more = filled_put filled q after (sym reach) fits (b.is ∙ sym (placed now q next (omega (arith, b.room)))) in
      record {
        most = rw length-append (omega (arith, a.most, b.most));
        room = rw length-append (omega (arith, a.after));
        after = rw length-append (omega (arith, a.after, b.after));
        is = more.is ∙ ap (λ xs. over xs was) (append_assoc (take at was) p q);
      }

  -- the same piece, with another bound
  pub put-within : {v : ℕ} → length p ≤ v → Put v p was at now next
  put-within h = record { most = h; room = a.room; after = a.after; is = a.is }

-- the piece that f has for y serves for every x that is y
pub put_as : {A : Type 0} (f : A → List ℕ) (v : ℕ) {x y : A} {w at next : ℕ} {was now : List ℕ} → x ≡ y → Put w (f y) was at now next
    → w ≤ v
    → Put v (f x) was at now next
put_as f v e put h = rw e (put-within put (omega (arith, put.most)))

-- ---- a loop that stores piece after piece, each of at most w bytes

-- k of m pieces are stored
pub record Listing (w : ℕ) (f : ℕ → List ℕ) (m : ℕ) (was : List ℕ) (at : ℕ) (now : List ℕ) (next k : ℕ) : Type 0 where
  pub bound : k ≤ m
  pub put : Put (w * k) (run f k) was at now next

module _ {w : ℕ} {f : ℕ → List ℕ} {m : ℕ} {was : List ℕ} {at : ℕ} where
  pub listing_start : at ≤ length was → Listing w f m was at was at 0
  unfolding run
  listing_start h = record { bound = omega arith; put = rw mul-zero (put-none was at h) }

  module _ {now : List ℕ} {next k : ℕ} (l : Listing w f m was at now next k) where
    -- the next piece has room
    pub listing-room : at + w * m ≤ length was → k < m → next + w ≤ length now
    listing-room h b =
        let p = l.put in
        omega (arith, put-size p, p.after, p.most, mul-suc w k, mul-le-mul_left w b)

    pub listing-turn : {after : List ℕ} {last : ℕ} → k < m → Put w (f k) now next after last → Listing w f m was at after last (k + 1)
    unfolding run
    listing-turn b p = record { bound = omega arith; put = rw (add-one k, mul-suc) (put_then l.put p) }

    pub listing-end : m ≤ k → Put (w * m) (run f m) was at now next
    listing-end h =
        let e : k ≡ m = omega (arith, l.bound) in
        rw e at l.put

-- what was stored from the first place on can be lent
module _ {w next : ℕ} {p was now : List ℕ} (put : Put w p was 0 now next) where
  pub put-lent : next ≤ length now
  put-lent = omega (arith, put-size put, put.room, put.after)

  pub lent-size : next ≡ length (take next now)
  lent-size = sym (length-take-le next now put-lent)
