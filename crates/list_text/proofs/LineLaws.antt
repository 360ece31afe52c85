-- Which lines a text has, and which of them a refusal names.
use Prim.Native.Nat.{ℕ, ◌+◌, ◌*◌, ◌≤◌, ◌<◌}
use mathlib.Core.Bool.{true, false}
use mathlib.Core.List.{List}
use mathlib.Core.Path.{◌≡◌}
use native.Mathlib.Omega.{arith}
use lib.ListN.{length}
use Rattle.std.specs.Prelude.{Option, None, Some}
use borrow.Author.Tests.{lt-ltb, le-ltb, lt-leb, le-leb, eq-eqb, ne_eqb}
use Rattle.timing.specs.Limits.{max_pairs}
use Rattle.buffers.specs.Run.{run}
use Rattle.list_format.specs.Lists.{no_needs}
use Rattle.list_format.specs.Write.{given_needs}
use Rattle.list_format.proofs.WriteBack.{given-none, given-all}
use Rattle.text_pieces.specs.Pieces.{Put}
use Rattle.text_pieces.proofs.PutLaws.{put-none, put-within}
use Rattle.refusal_text.specs.RefusalText.{line_width, refusal_line, refusal_line_in}
use Rattle.scan.specs.Scan.{line_of}
use Rattle.list_text.specs.ListText.{needs_line, last_of, refused_with, refused_line}

-- ---- lines of needs

module _ (n : ℕ) (ys : List ℕ) {w at : ℕ} {text : List ℕ} where
  pub block_none : no_needs ys ≡ true → at ≤ length text → Put w (run (needs_line ys) (given_needs n ys)) text at text at
  unfolding run
  block_none e h = rw (given-none n ys e) (put-within (put-none text at h) (omega arith))

  pub block-all : {next : ℕ} {text' : List ℕ} → no_needs ys ≡ false → Put w (run (needs_line ys) n) text at text' next
      → Put w (run (needs_line ys) (given_needs n ys)) text at text' next
  block-all e put = rw (given-all n ys e) put

-- ---- the line of a refusal

module _ (needs number place : ℕ) where
  pub last-far : max_pairs ≤ place → None ≡ last_of needs number place
  unfolding last_of
  last-far h = rw (le-leb max_pairs place h)

  module _ (near : place < max_pairs) where
    pub last-needs : number ≡ 13 → Some (2 * place + 3) ≡ last_of needs number place
    unfolding last_of
    last-needs h = rw (lt-leb max_pairs place near, eq-eqb number 13 h)

    module _ (other : number ≡ 13 → ⊥) where
      pub last-whole : number < 14 → None ≡ last_of needs number place
      unfolding last_of
      last-whole h = rw (lt-leb max_pairs place near, ne_eqb number 13 other, lt-ltb number 14 h)

      pub last-pair : 14 ≤ number → Some (needs + 4 * place + 5) ≡ last_of needs number place
      unfolding last_of
      last-pair h = rw (lt-leb max_pairs place near, ne_eqb number 13 other, le-ltb number 14 h)

  module _ (bs : List ℕ) {r : Option ℕ} {next : ℕ} {out out' : List ℕ} (e : r ≡ last_of needs number place) where
    pub refused-whole : r ≡ None → Put line_width (refusal_line number place) out 0 out' next
        → Put line_width (refused_line bs needs number place) out 0 out' next
    unfolding refused_with
    refused-whole h put = rw (← e, h) put

    pub refused-line : {last line : ℕ} → r ≡ Some last → line ≡ line_of last bs → Put line_width (refusal_line_in number place line) out 0 out' next
        → Put line_width (refused_line bs needs number place) out 0 out' next
    unfolding refused_with
    refused-line h l put = rw (← e, h, ← l) put
