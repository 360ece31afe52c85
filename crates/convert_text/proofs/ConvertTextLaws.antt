-- From what converting promises to the bytes that are stored; and what is made of a list that is accepted or can be written.
use Prim.Native.Nat.{ℕ, ◌*◌, ◌/◌, ◌%◌, ◌^◌, ◌≤◌, ◌<◌}
use mathlib.Core.Bool.{Bool, true, false, cond}
use mathlib.Core.List.{List, [], ◌∷◌}
use mathlib.Core.Path.{◌≡◌, refl, sym, ◌∙◌, ap}
use native.Mathlib.Omega.{arith}
use lib.Dec.{ltb, eqb}
use lib.ListN.{length, get_or, take}
use borrow.Author.Tests.{ltb-false, eqb-true}
use Rattle.buffers.specs.Over.{over, zeros}
use Rattle.buffers.proofs.FillLaws.{filled-front, filled-fits}
use Rattle.buffers.proofs.PadLaws.{zeros-size}
use Rattle.words.specs.Word.{kind_needs, kind_of}
use Rattle.words.specs.Bytes.{byte_bits, to_words, to_bytes}
use Rattle.words.proofs.BytesLaws.{bytes-size}
use Rattle.ordering.specs.Order.{Ascends}
use Rattle.ordering.proofs.OrderLaws.{ordered-length}
use Rattle.refusals.specs.Checks.{number_of, first_fault}
use Rattle.refusals.specs.Reply.{numbers, done, reply_of, buffer_after, told}
use Rattle.refusals.proofs.CheckLaws.{both-pass, passed}
use Rattle.refusals.proofs.ReplyLaws.{numbers-none, numbers-done, told-refusal}
use Rattle.list_format.specs.Lists.{word, registers, pair_count, need_words_by, need_words, written_at, stored_checks, IsAccepted}
use Rattle.list_format.proofs.ListLaws.{ListIn, accepted-in, list-pass}
use Rattle.converter.specs.Convert.{Converting, written_pairs, converted, convert_checks, converting, convert_reply, ConvertedAs}
use Rattle.std.specs.Prelude.{Ok, Err}
use Rattle.refusals.specs.declared.Refused.{Refused}
use Rattle.refusals.specs.declared.Refusal.TheVariants.{Room}
use Rattle.converter.proofs.StrungLaws.{written-length}
use Rattle.converter.proofs.ConvertedLaws.{converting-done, ascending-kept}
use Rattle.converter.proofs.PutLaws.{converted-size}
use Rattle.text_pieces.specs.Pieces.{Put}
use Rattle.text_pieces.specs.Saying.{trouble_of}
use Rattle.text_pieces.proofs.PutLaws.{put-within}
use Rattle.text_pieces.proofs.SaidLaws.{said-text, said-trouble}
use Rattle.list_bytes.specs.ListBytes.{max_words, max_bytes, list_of}
use Rattle.list_bytes.proofs.LoadLaws.{list-most, list_back}
use Rattle.refusal_text.specs.RefusalText.{line_width, refusal_line}
use Rattle.convert_text.specs.ConvertText.{list_bytes, error_line, MadeAs}
use Rattle.convert_text.specs.ConvertText.{not_converted, made_done, converted_from, converted_bytes}

-- the bytes of all words
pub bytes-put : (ws was now : List ℕ) → 4 * length ws ≤ length was → now ≡ over (to_bytes ws (length ws)) was
    → Put (4 * length ws) (to_bytes ws (length ws)) was 0 now (4 * length ws)
bytes-put ws was now room e =
    let size = bytes-size ws (length ws) in
    record { most = omega (arith, size); room = omega (arith, size); after = omega (arith, size); is = e }

module _ {piece out out' : List ℕ} {next : ℕ} where
  pub made_bytes : Put max_bytes piece out 0 out' next → MadeAs (list_bytes piece) out out' (Ok next)
  made_bytes put = said-text put (omega arith)

  pub made_fault : Put line_width piece out 0 out' next → MadeAs (error_line piece) out out' (Err (trouble_of next))
  made_fault put = said-trouble put (omega arith)

-- ---- from what converting promises

module _ {ws now : List ℕ} {r : Converting} (a : ConvertedAs ws (zeros max_words) now r) where
  answer : convert_reply r ≡ reply_of (converting ws max_words)
  answer = rw (zeros-size max_words) at a.reply

  pub convert-refused : {why : Refused} {next : ℕ} {out out' : List ℕ} → r ≡ Err why
      → Put line_width (refusal_line (number_of why.refusal) why.place) out 0 out' next → MadeAs (converted_from ws) out out' (Err (trouble_of next))
  unfolding convert_reply
  convert-refused e put = rw (told-refusal not_converted made_done (converting ws max_words) (rw e at answer)) (made_fault put)

  module _ {count : ℕ} (e : r ≡ Ok count) where
    given : numbers (count ∷ []) ≡ reply_of (converting ws max_words)
    unfolding convert_reply
    given = rw e at answer

    is : converting ws max_words ≡ done (length (converted ws) ∷ []) (converted ws)
    unfolding converting
    is = numbers-done (convert_checks ws max_words) (done (length (converted ws) ∷ []) (converted ws)) given

    size : length (converted ws) ≡ count
    unfolding reply_of
    size = let e = rw is at given in cc

    -- the last check is of the room
    pub converted-few : count ≤ max_words
    unfolding converting
    converted-few =
        let none = numbers-none (first_fault (convert_checks ws max_words)) (done (length (converted ws) ∷ []) (converted ws)) given in
        let room = (both-pass (stored_checks ws) ((ltb max_words (length (converted ws)), Room, 0) ∷ []) none).1 in
        rw size at (ltb-false max_words (length (converted ws)) (passed ((ltb max_words (length (converted ws)), Room, 0) ∷ []) room).0)

    words-stored : now ≡ over (converted ws) (zeros max_words)
    unfolding buffer_after
    words-stored = rw (zeros-size max_words, is) at a.stored

    words_are : take count now ≡ converted ws
    words_are = filled-front (converted ws) (zeros max_words) size words-stored

    -- the words can be lent
    pub converted-room : count ≤ length now
    converted-room = filled-fits (converted ws) (zeros max_words) size words-stored

    pub converted-lent : count ≡ length (take count now)
    converted-lent = rw words_are (sym size)

    pub convert-done : {next : ℕ} {out out' : List ℕ} → Put (4 * length (take count now))
        (to_bytes (take count now) (length (take count now))) out 0 out' next → MadeAs (converted_from ws) out out' (Ok next)
    unfolding told
    convert-done put =
        let here : converted_from ws ≡ list_bytes (to_bytes (take count now) (length (take count now))) = rw (is, words_are) in
        rw here (made_bytes (put-within put (omega (arith, put.most, converted-lent, converted-few))))

-- ---- a list that can be stored is not refused

pub needs-most : (ws : List ℕ) → need_words ws ≤ registers ws
unfolding need_words_by
needs-most ws = go (eqb (kind_of (word ws 1)) kind_needs)
  where
    go : (b : Bool) → cond b (registers ws) 0 ≤ registers ws
    go true = omega arith
    go false = omega arith

module _ (ws : List ℕ) (l : ListIn ws) where
  pub converted-fits : length (converted ws) ≤ max_words
  converted-fits =
      omega (
        arith,
        converted-size ws l,
        ordered-length (written_pairs ws),
        written-length ws,
        needs-most ws,
        l.head.few,
        l.head.most,
      )

  pub stored-converts : converted_from ws ≡ list_bytes (to_bytes (converted ws) (length (converted ws)))
  unfolding told
  stored-converts = rw (converting-done ws (list-pass ws false l (λ e. other e)) max_words converted-fits)
    where
      other : false ≡ true → Ascends (written_at ws) (pair_count ws)
      other e = let z : ◌≡◌ {A = ℕ} 0 1 = cc in absurd (omega arith)

-- ---- an accepted list stays as it is

pub accepted-kept : (ws : List ℕ) → IsAccepted ws → length ws ≤ max_words → converted_from ws ≡ list_bytes (to_bytes ws (length ws))
unfolding told
accepted-kept ws a h = rw (ascending-kept ws a max_words h)

-- the bytes of an accepted list are not too many, and four to a word
pub counts : (bs : List ℕ) → 0 < length (list_of bs) → (length bs ≤ max_bytes) × (length bs % 4 ≡ 0)
unfolding list_of
counts bs = go (ltb max_bytes (length bs)) refl (eqb (length bs % 4) 0) refl
  where
    go : (b : Bool) → ltb max_bytes (length bs) ≡ b → (b' : Bool) → eqb (length bs % 4) 0 ≡ b'
        → 0 < length (cond b [] (cond b' (to_words bs (length bs / 4)) [])) → (length bs ≤ max_bytes) × (length bs % 4 ≡ 0)
    go true e b' e' h = absurd (omega arith)
    go false e true e' h = (ltb-false max_bytes (length bs) e, eqb-true (length bs % 4) 0 e')
    go false e false e' h = absurd (omega arith)

-- they are the bytes of its words
pub accepted-bytes : (bs : List ℕ) → ((i : ℕ) → get_or bs i 0 < 2 ^ byte_bits) → IsAccepted (list_of bs)
    → to_bytes (list_of bs) (length (list_of bs)) ≡ bs
accepted-bytes bs small a =
    let both = counts bs (omega (arith, (accepted-in (list_of bs) a).head.size)) in
    list_back bs both.0 both.1 small

-- and come back the same
pub bytes-kept : (bs : List ℕ) → ((i : ℕ) → get_or bs i 0 < 2 ^ byte_bits) → IsAccepted (list_of bs) → converted_bytes bs ≡ list_bytes bs
bytes-kept bs small a = accepted-kept (list_of bs) a (list-most bs) ∙ ap list_bytes (accepted-bytes bs small a)
