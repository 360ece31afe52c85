-- The words of a list's bytes: none of too many bytes or of half words, and every job refuses those; else four bytes a word,
-- in the first places of a buffer.
use Prim.Native.Nat.{ℕ, ◌/◌, ◌%◌, ◌^◌, ◌≤◌, ◌<◌}
use mathlib.Core.Bool.{Bool, true, false, cond}
use mathlib.Core.List.{List, [], ◌++◌}
use mathlib.Core.Path.{◌≡◌, refl, sym}
use native.Mathlib.Omega.{arith}
use lib.Dec.{ltb, eqb}
use lib.ListN.{length, get_or, take}
use borrow.Author.Tests.{ltb-false, lt-ltb, le-ltb, eq-eqb, ne_eqb}
use Rattle.buffers.specs.Over.{over}
use Rattle.buffers.proofs.FillLaws.{filled-front, filled-fits}
use Rattle.words.specs.Bytes.{byte_bits, to_words, to_bytes}
use Rattle.words.proofs.BytesLaws.{words_size, bytes_back}
use Rattle.refusals.specs.declared.Refusal.TheVariants.{Length}
use Rattle.refusals.specs.Checks.{Check, number_of, refused_at, or_check, fault_after, each_check}
use Rattle.refusals.specs.Reply.{Outcome, refused, answered}
use Rattle.refusals.proofs.ReplyLaws.{first-refused}
use Rattle.list_format.specs.Lists.{need_words_by, list_checks}
use Rattle.list_bytes.specs.ListBytes.{max_words, max_bytes, list_of, LoadedAs}

module _ (bs : List ℕ) where
  -- too many bytes
  pub list-long : max_bytes < length bs → list_of bs ≡ []
  unfolding list_of
  list-long h = rw (lt-ltb max_bytes (length bs) h)

  -- not four to a word
  pub list-odd : length bs ≤ max_bytes → (length bs % 4 ≡ 0 → ⊥) → list_of bs ≡ []
  unfolding list_of
  list-odd h odd = rw (le-ltb max_bytes (length bs) h, ne_eqb (length bs % 4) 0 odd)

  pub load-none : (was : List ℕ) → list_of bs ≡ [] → LoadedAs bs was was 0
  load-none was e = record { size = rw e; words = rw e }

  -- no words: every job refuses by 11 at 0
  pub none-refused : (cs : List Check) (o : Outcome) → list_of bs ≡ [] → answered (list_checks (list_of bs) ++ cs) o ≡ refused 11 0
  unfolding or_check fault_after each_check need_words_by number_of
  none-refused cs o e = first-refused (list_checks (list_of bs)) cs o {r = refused_at Length 0} (rw e)

  -- four bytes to a word
  pub list-even : length bs ≤ max_bytes → length bs % 4 ≡ 0 → list_of bs ≡ to_words bs (length bs / 4)
  unfolding list_of
  list-even h even = rw (le-ltb max_bytes (length bs) h, eq-eqb (length bs % 4) 0 even)

  pub load-done : (was now : List ℕ) → length bs ≤ max_bytes → length bs % 4 ≡ 0 → now ≡ over (to_words bs (length bs / 4)) was
      → LoadedAs bs was now (length bs / 4)
  load-done was now h even e = record { size = rw (list-even h even, words_size bs (length bs / 4)); words = rw (list-even h even) e }

  pub list-most : length (list_of bs) ≤ max_words
  unfolding list_of
  list-most = go (ltb max_bytes (length bs)) (eqb (length bs % 4) 0) refl
    where
      go : (long even : Bool) → ltb max_bytes (length bs) ≡ long → length (cond long [] (cond even (to_words bs (length bs / 4)) [])) ≤ max_words
      go true even e = omega arith
      go false false e = omega arith
      go false true e = omega (arith, ltb-false max_bytes (length bs) e, words_size bs (length bs / 4))

  module _ {was now : List ℕ} {count : ℕ} (l : LoadedAs bs was now count) where
    pub loaded-most : count ≤ max_words
    loaded-most = omega (arith, l.size, list-most)

    pub loaded-fits : count ≤ length now
    loaded-fits = filled-fits (list_of bs) was (sym l.size) l.words

    pub loaded-front : take count now ≡ list_of bs
    loaded-front = filled-front (list_of bs) was (sym l.size) l.words

    -- the words can be lent
    pub loaded-size : count ≡ length (take count now)
    loaded-size = rw loaded-front l.size

  -- the bytes of the words are the bytes
  pub list_back : length bs ≤ max_bytes → length bs % 4 ≡ 0 → ((i : ℕ) → get_or bs i 0 < 2 ^ byte_bits)
      → to_bytes (list_of bs) (length (list_of bs)) ≡ bs
  list_back h even small =
      let k : ℕ = length bs / 4 in
      rw (list-even h even, words_size bs k) (bytes_back bs k (omega arith) small)
