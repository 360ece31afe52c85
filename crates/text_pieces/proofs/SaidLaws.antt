-- From a piece that was stored to what was said, and from that to the bytes that are written out.
use Prim.Native.Nat.{ℕ, ◌≤◌}
use mathlib.Core.List.{List}
use mathlib.Core.Path.{◌≡◌, refl, sym, ◌∙◌, ap}
use native.Mathlib.Omega.{arith}
use lib.ListN.{length}
use Rattle.text_pieces.specs.Pieces.{Put}
use Rattle.std.specs.Prelude.{Ok, Err}
use Rattle.text_pieces.specs.Saying.{Saying, Said, text, trouble, trouble_of, bytes_of, returned_for, SaidAs}
use Rattle.text_pieces.proofs.PutLaws.{put-within, put-size}

module _ {w v : ℕ} {piece was now : List ℕ} {next : ℕ} (put : Put w piece was 0 now next) (h : w ≤ v) where
  same : next ≡ length piece
  same = omega (arith, put.after)

  pub said-text : SaidAs v (text piece) was now (Ok next)
  unfolding returned_for bytes_of
  said-text = record { answer = rw same; stored = rw same at (put-within put {v = v} (omega (arith, put.most))) }

  pub said-trouble : SaidAs v (trouble piece) was now (Err (trouble_of next))
  unfolding returned_for bytes_of
  said-trouble = record { answer = rw same; stored = rw same at (put-within put {v = v} (omega (arith, put.most))) }

-- the count of bytes that is returned
abbrev pub count_of : Said → ℕ
count_of (Ok count) = count
count_of (Err t) = t.size

-- that many bytes can be lent
pub said_put : {w : ℕ} {p : Saying} {was now : List ℕ} {r : Said} {count : ℕ} → SaidAs w p was now r → count_of r ≡ count
    → Put w (bytes_of p) was 0 now count
unfolding returned_for bytes_of
said_put {w} {p} {was} {now} {r} {count} a e = rw (size p ∙ ap count_of (sym a.answer) ∙ e) at a.stored
  where
    size : (p : Saying) → length (bytes_of p) ≡ count_of (returned_for p)
    size (text bs) = refl
    size (trouble bs) = refl

-- the buffer keeps its length
pub said-size : {w : ℕ} {p : Saying} {was now : List ℕ} {r : Said} → SaidAs w p was now r → length now ≡ length was
said-size a = put-size a.stored
