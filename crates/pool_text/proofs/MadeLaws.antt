-- What is made of the words that a call stored.
use Prim.Native.Nat.{ℕ, ◌*◌, ◌≤◌}
use mathlib.Core.List.{List, [], ◌∷◌}
use mathlib.Core.Path.{◌≡◌, sym}
use native.Mathlib.Omega.{arith}
use lib.ListN.{length, take}
use Rattle.buffers.specs.Over.{over, zeros}
use Rattle.buffers.proofs.FillLaws.{filled-front, filled-fits}
use Rattle.words.specs.Bytes.{to_bytes}
use Rattle.refusals.specs.Checks.{Check}
use Rattle.refusals.specs.Reply.{numbers, Outcome, done, reply_of, buffer_after, told, answered}
use Rattle.refusals.proofs.ReplyLaws.{numbers-done}
use Rattle.text_pieces.specs.Pieces.{Put}
use Rattle.text_pieces.proofs.PutLaws.{put-within}
use Rattle.list_bytes.specs.ListBytes.{max_words}
use Rattle.convert_text.specs.ConvertText.{Product, list_bytes, MadeAs, made_done}
use Rattle.std.specs.Prelude.{Ok}
use Rattle.convert_text.proofs.ConvertTextLaws.{made_bytes}

-- what a call that stores the words of a list comes to
abbrev pub storing : List Check → List ℕ → Outcome
storing cs us = answered cs (done (length us ∷ []) us)

-- it stored the words us in zeros, and returned their count
pub record Stored (cs : List Check) (us now : List ℕ) (count : ℕ) : Type 0 where
  pub given : numbers (count ∷ []) ≡ reply_of (storing cs us)
  pub stored : now ≡ buffer_after (storing cs us) (zeros max_words)

module _ {cs : List Check} {us now : List ℕ} {count : ℕ} (s : Stored cs us now count) where
  is : storing cs us ≡ done (length us ∷ []) us
  is = numbers-done cs (done (length us ∷ []) us) s.given

  size : length us ≡ count
  unfolding reply_of
  size = let e = rw is at s.given in cc

  words-stored : now ≡ over us (zeros max_words)
  unfolding buffer_after
  words-stored = rw is at s.stored

  words_are : take count now ≡ us
  words_are = filled-front us (zeros max_words) size words-stored

  -- the words can be lent
  pub stored-room : count ≤ length now
  stored-room = filled-fits us (zeros max_words) size words-stored

  pub stored-lent : count ≡ length (take count now)
  stored-lent = rw words_are (sym size)

  pub stored-made : (f : ℕ → ℕ → Product) {next : ℕ} {out out' : List ℕ} → length now ≡ max_words
      → Put (4 * length (take count now)) (to_bytes (take count now) (length (take count now))) out 0 out' next
      → MadeAs (told f made_done (storing cs us)) out out' (Ok next)
  unfolding told
  stored-made f whole put =
      let here : told f made_done (storing cs us) ≡ list_bytes (to_bytes (take count now) (length (take count now))) = rw (is, words_are) in
      rw here (made_bytes (put-within put (omega (arith, put.most, stored-lent, stored-room))))
