-- From what reading, writing and scanning promise to the text that is stored.
use Prim.Native.Nat.{ℕ, zero, suc, ◌+◌, ◌-◌, ◌*◌, ◌/◌, ◌%◌, ◌≤◌, ◌<◌}
use mathlib.Core.Bool.{Bool, true, false, cond}
use mathlib.Core.List.{List, [], ◌∷◌, ◌++◌, append_assoc}
use mathlib.Core.Path.{◌≡◌, refl, sym, ◌∙◌, ap}
use native.Mathlib.Omega.{arith}
use lib.Dec.{ltb}
use lib.ListN.{length, get_or, take, drop, length-append, length-drop}
use lib.Seq.{length-take-le, take_at, drop_at, drop-drop}
use borrow.Author.Tests.{lt-ltb, ne_eqb}
use Rattle.timing.specs.Limits.{max_registers, max_pairs}
use Rattle.buffers.specs.Over.{over, zeros}
use Rattle.buffers.proofs.FillLaws.{filled-front, filled-fits}
use Rattle.buffers.proofs.PadLaws.{zeros-size}
use Rattle.words.specs.Bytes.{to_bytes}
use Rattle.refusals.specs.Checks.{number_of, refused_at, first_fault, or_check, fault_after, no_fault}
use Rattle.refusals.specs.declared.Refused.{Refused}
use Rattle.refusals.specs.Reply.{numbers, done, refused, reply_of, buffer_after, told}
use Rattle.refusals.proofs.ReplyLaws.{answered-done, numbers-none, numbers-done, told-refusal, first-refused}
use Rattle.list_format.specs.Lists.{registers, pair_count, needs_of, differ}
use Rattle.list_format.specs.Read.{Reading, numbers_of, read_places, read_checks, reading, read_reply}
use Rattle.list_format.specs.Write.{Writing, given_count, words_of, end_place, count_checks, given_body, write_checks, GivenIn, writing_by, write_reply}
use Rattle.list_format.specs.RoundTrip.{ReadAs, WrittenBy}
use Rattle.list_format.specs.declared.Counts.{Counts}
use Rattle.list_format.proofs.NeedsLaws.{needs-length}
use Rattle.list_format.proofs.ListLaws.{numbers-in}
use Rattle.list_format.proofs.ReadBack.{numbers-length}
use Rattle.list_format.proofs.WriteBack.{given-in, words-length, list_back}
use Rattle.converter.specs.Convert.{converted}
use Rattle.text_pieces.specs.Pieces.{Put}
use Rattle.text_pieces.specs.Saying.{Said, SaidAs, trouble_of, text as say_text}
use Rattle.text_pieces.proofs.SaidLaws.{said-text, said-trouble}
use Rattle.refusal_text.specs.RefusalText.{line_width, refusal_line, refused_saying, fault_line_of}
use Rattle.list_bytes.specs.ListBytes.{max_words}
use Rattle.scan.specs.declared.Numbers.{Numbers}
use Rattle.scan.specs.declared.FaultAt.{FaultAt}
use Rattle.scan.specs.Scan.{Scanned, max_numbers, ScanAs}
use Rattle.scan.proofs.ScanLaws.{lent_is}
use Rattle.scan.proofs.StoredLaws.{stored-front, stored-size}
use Rattle.convert_text.specs.ConvertText.{list_bytes, error_line, converted_from, MadeAs}
use Rattle.convert_text.proofs.ConvertTextLaws.{made_fault, stored-converts}
use Rattle.list_text.specs.ListText.{list_width, shown_places, text_of, list_numbers, shown_said}
use Rattle.list_text.specs.ListText.{refused_line, made_refused, made_stored, made_from, needs_given, made_with, made_of, made}
use Rattle.std.specs.Prelude.{Ok, Err}
use Rattle.refusals.specs.declared.Refusal.TheVariants.{Length, Size}

-- ---- showing

-- the numbers and the needs, as they are lent
module _ (stored : List ℕ) (n m : ℕ) (h : read_places n m ≤ length stored) where
  pub lent-numbers : 4 * m ≡ length (take (4 * m) stored)
  lent-numbers = sym (length-take-le (4 * m) stored (omega arith))

  pub lent-needs : length (take (4 * m + 2 * n - 4 * m) (drop (4 * m) stored)) ≡ 2 * n
  lent-needs =
      let size : 4 * m + 2 * n - 4 * m ≡ 2 * n = omega arith in
      rw size (length-take-le (2 * n) (drop (4 * m) stored) (rw (length-drop (4 * m) stored) (omega arith)))

module _ {ws now : List ℕ} {r : Reading} (a : ReadAs ws (zeros list_numbers) now r) where
  reply : read_reply r ≡ reply_of (reading ws list_numbers)
  reply = rw (zeros-size list_numbers) at a.reply

  pub show-refused : {why : Refused} {next : ℕ} {text text' : List ℕ} → r ≡ Err why
      → Put line_width (refusal_line (number_of why.refusal) why.place) text 0 text' next
      → SaidAs shown_places (told refused_saying shown_said (reading ws list_numbers)) text text' (Err (trouble_of next))
  unfolding read_reply
  show-refused e put = rw (told-refusal refused_saying shown_said (reading ws list_numbers) (rw e at reply)) (said-trouble put (omega arith))

  module _ {found : Counts} (e : r ≡ Ok found) where
    read_told : numbers (found.registers ∷ found.pairs ∷ []) ≡ reply_of (reading ws list_numbers)
    unfolding read_reply
    read_told = rw e at reply

    is : reading ws list_numbers ≡ done (registers ws ∷ pair_count ws ∷ []) (numbers_of ws ++ needs_of ws)
    unfolding reading
    is = numbers-done (read_checks ws list_numbers) (done (registers ws ∷ pair_count ws ∷ []) (numbers_of ws ++ needs_of ws)) read_told

    same : numbers (found.registers ∷ found.pairs ∷ []) ≡ numbers (registers ws ∷ pair_count ws ∷ [])
    unfolding reply_of
    same = rw is at read_told

    pairs-are : found.pairs ≡ pair_count ws
    pairs-are = let e = same in cc

    registers-are : found.registers ≡ registers ws
    registers-are = let e = same in cc

    pub read-few : found.pairs ≤ max_pairs
    unfolding reading
    read-few = rw pairs-are (numbers-in ws _ _ read_told).head.few

    pub read-most : found.registers ≤ max_registers
    unfolding reading
    read-most = rw registers-are (numbers-in ws _ _ read_told).head.most

    numbers-size : length (numbers_of ws) ≡ 4 * found.pairs
    numbers-size = rw (numbers-length ws, pairs-are)

    needs-size : length (needs_of ws) ≡ 2 * found.registers
    needs-size = rw (needs-length ws, registers-are)

    -- the numbers, the needs, and what is left of the buffer
    left : List ℕ
    left = drop (length (numbers_of ws ++ needs_of ws)) (zeros list_numbers)

    all-stored : now ≡ (numbers_of ws ++ needs_of ws) ++ left
    unfolding buffer_after left
    all-stored = rw (zeros-size list_numbers, is) at a.stored

    stored-are : now ≡ numbers_of ws ++ (needs_of ws ++ left)
    stored-are = rw append_assoc at all-stored

    numbers-are : take (4 * found.pairs) now ≡ numbers_of ws
    numbers-are = rw stored-are (take_at (numbers_of ws) (needs_of ws ++ left) (4 * found.pairs) numbers-size)

    needs-are : take (2 * found.registers) (drop (4 * found.pairs) now) ≡ needs_of ws
    needs-are =
        rw (stored-are, drop_at (numbers_of ws) (needs_of ws ++ left) (4 * found.pairs) numbers-size)
        (take_at (needs_of ws) left (2 * found.registers) needs-size)

    pub read-room : read_places found.registers found.pairs ≤ length now
    read-room =
        let L = left in
        rw (stored-are, length-append, length-append) (omega (arith, numbers-size, needs-size))

    pub show-read : {next : ℕ} {text text' : List ℕ}
        → Put list_width (text_of found.registers (take (4 * found.pairs) now) (take (2 * found.registers) (drop (4 * found.pairs) now))) text 0 text' next
        → SaidAs shown_places (told refused_saying shown_said (reading ws list_numbers)) text text' (Ok next)
    unfolding told
    show-read put =
        let xs = take_at (numbers_of ws) (needs_of ws) (4 * pair_count ws) (numbers-length ws) in
        let ys = drop_at (numbers_of ws) (needs_of ws) (4 * pair_count ws) (numbers-length ws) in
        let here : told refused_saying shown_said (reading ws list_numbers)
        ≡ say_text (text_of found.registers (take (4 * found.pairs) now) (take (2 * found.registers) (drop (4 * found.pairs) now))) =
        rw (is, xs, ys, numbers-are, needs-are, registers-are) in
        rw here (said-text put (omega arith))

-- ---- making

module _ {n : ℕ} {xs ys now : List ℕ} {r : Writing} (a : WrittenBy false n xs ys (zeros max_words) now r) where
  answer : write_reply r ≡ reply_of (writing_by false n xs ys max_words)
  answer = rw (zeros-size max_words) at a.reply

  pub make-refused : (bs : List ℕ) (needs : ℕ) {why : Refused} {next : ℕ} {out out' : List ℕ} → r ≡ Err why
      → Put line_width (refused_line bs needs (number_of why.refusal) why.place) out 0 out' next
      → MadeAs (made_from bs needs n xs ys) out out' (Err (trouble_of next))
  unfolding write_reply
  make-refused bs needs e put = rw (told-refusal (made_refused bs needs) made_stored (writing_by false n xs ys max_words) (rw e at answer)) (made_fault put)

  module _ {count : ℕ} (e : r ≡ Ok count) where
    given : numbers (count ∷ []) ≡ reply_of (writing_by false n xs ys max_words)
    unfolding write_reply
    given = rw e at answer

    pass : first_fault (write_checks false n xs ys max_words) ≡ no_fault
    unfolding writing_by
    pass = numbers-none (first_fault (write_checks false n xs ys max_words)) (done ((end_place n xs ys + 1) ∷ []) (words_of n xs ys)) given

    within : GivenIn n xs ys
    within = given-in false n xs ys max_words pass

    written : writing_by false n xs ys max_words ≡ done ((end_place n xs ys + 1) ∷ []) (words_of n xs ys)
    unfolding writing_by
    written = answered-done (write_checks false n xs ys max_words) (done ((end_place n xs ys + 1) ∷ []) (words_of n xs ys)) pass

    count-is : count ≡ end_place n xs ys + 1
    unfolding reply_of
    count-is = let e = rw written at given in cc

    word_size : length (words_of n xs ys) ≡ count
    word_size = words-length n xs ys within ∙ sym count-is

    words-stored : now ≡ over (words_of n xs ys) (zeros max_words)
    unfolding buffer_after
    words-stored = rw (zeros-size max_words, written) at a.stored

    words_are : take count now ≡ words_of n xs ys
    words_are = filled-front (words_of n xs ys) (zeros max_words) word_size words-stored

    -- the words can be lent
    pub written-room : count ≤ length now
    written-room = filled-fits (words_of n xs ys) (zeros max_words) word_size words-stored

    pub written-size : count ≡ length (take count now)
    written-size = rw words_are (sym word_size)

    pub make-written : (bs : List ℕ) (needs : ℕ) {out out' : List ℕ} {answer : Said} → MadeAs (converted_from (take count now)) out out' answer
        → MadeAs (made_from bs needs n xs ys) out out' answer
    unfolding told
    make-written bs needs made =
        let here : made_from bs needs n xs ys ≡ converted_from (take count now) = rw (written, words_are) in
        rw here made

-- numbers that can be written are not refused after that
pub made-converts : (bs : List ℕ) (needs n : ℕ) (xs ys : List ℕ) → first_fault (write_checks false n xs ys max_words) ≡ no_fault
    → let ws : List ℕ = converted (words_of n xs ys) in made_from bs needs n xs ys ≡ list_bytes (to_bytes ws (length ws))
unfolding writing_by told
made-converts bs needs n xs ys e =
    let written = answered-done (write_checks false n xs ys max_words) (done ((end_place n xs ys + 1) ∷ []) (words_of n xs ys)) e in
    rw written (stored-converts (words_of n xs ys) (list_back n xs ys (given-in false n xs ys max_words e)))

-- ---- a text without needs

zeros-front : (k j : ℕ) → k ≤ j → take k (zeros j) ≡ zeros k
zeros-front zero j h = refl
zeros-front (suc k) zero h = absurd (omega arith)
zeros-front (suc k) (suc j) h = ap (λ zs. 0 ∷ zs) (zeros-front k j (omega arith))

pub zeros-lent : (k j : ℕ) → k ≤ j → k ≡ length (take k (zeros j))
zeros-lent k j h = rw (zeros-front k j h) (sym (zeros-size k))

-- too many registers are refused before the needs are looked at
many : (n : ℕ) (xs ys : List ℕ) → max_registers < n → writing_by false n xs ys max_words ≡ refused (number_of (cond (differ (length xs % 4) 0) Length Size)) 0
unfolding writing_by or_check fault_after
many n xs ys h =
    first-refused (count_checks n (length xs) (length ys)) (given_body false n xs ys (given_count xs) max_words)
    (done ((end_place n xs ys + 1) ∷ []) (words_of n xs ys)) {r = refused_at (cond (differ (length xs % 4) 0) Length Size) 0}
    (rw (ne_eqb n 0 (λ e. omega arith), lt-ltb max_registers n h) (go (differ (length xs % 4) 0)))
  where
    few : Bool
    few = ltb max_pairs (length xs / 4)

    go : (b : Bool) → first_fault ((b, Length, 0) ∷ (false, Size, 0) ∷ (true, Size, 0) ∷ (few, Size, 0) ∷ (differ (length ys) (2 * n), Length, 0) ∷ [])
        ≡ Err (refused_at (cond b Length Size) 0)
    go true = refl
    go false = refl

module _ (bs : List ℕ) (n : ℕ) (xs : List ℕ) {out out' : List ℕ} {r : Said} where
  pub plain-many : (ys : List ℕ) → max_registers < n → MadeAs (made_from bs 0 n xs ys) out out' r
      → MadeAs (made_from bs 0 n xs (zeros (2 * n))) out out' r
  plain-many ys h made = rw (many n xs (zeros (2 * n)) h, ← many n xs ys h) made

  pub plain-some : (j : ℕ) → 2 * n ≤ j → MadeAs (made_from bs 0 n xs (take (2 * n) (zeros j))) out out' r
      → MadeAs (made_from bs 0 n xs (zeros (2 * n))) out out' r
  plain-some j h made = rw (zeros-front (2 * n) j h) at made

-- ---- the numbers of a text

module _ (bs : List ℕ) (needs : ℕ) (xs : List ℕ) {out out' : List ℕ} {r : Said} where
  pub with_none : needs ≡ 0 → MadeAs (made_from bs 0 (get_or xs 0 0) (take (length xs - 1) (drop 1 xs)) (zeros (2 * get_or xs 0 0))) out out' r
      → MadeAs (made_with bs needs (get_or xs 0 0) (drop 1 xs)) out out' r
  unfolding needs_given
  with_none none made = rw (none, ← lent_is xs 1) made

  pub with-some : {from : ℕ} → (needs ≡ 0 → ⊥) → from ≡ 1 + needs
      → MadeAs (made_from bs needs (get_or xs 0 0) (take (length xs - from) (drop from xs)) (take (from - 1) (drop 1 xs))) out out' r
      → MadeAs (made_with bs needs (get_or xs 0 0) (drop 1 xs)) out out' r
  unfolding needs_given
  with-some {from} some f made =
      let back : take (length xs - from) (drop from xs) ≡ drop needs (drop 1 xs) = lent_is xs from ∙ rw f (sym (drop-drop needs 1 xs)) in
      let size : from - 1 ≡ needs = omega arith in
      rw (ne_eqb needs 0 some) (rw (back, size) at made)

module _ {text xs : List ℕ} {r : Scanned} (a : ScanAs true text (zeros max_numbers) xs r) where
  pub make-faulty : {wrong : FaultAt} {next : ℕ} {out out' : List ℕ} → r ≡ Err wrong
      → Put line_width (fault_line_of wrong) out 0 out' next → MadeAs (made text) out out' (Err (trouble_of next))
  unfolding made_of
  make-faulty {wrong} e put =
      let here : made text ≡ error_line (fault_line_of wrong) = rw (← a.answer, e) in
      rw here (made_fault put)

  module _ {found : Numbers} (e : r ≡ Ok found) where
    pub numbers-some : found.needs < length (take found.count xs)
    numbers-some = rw (stored-front a e) (omega (arith, stored-size a e, (a.counted found e).some))

    pub numbers-most : found.needs ≤ max_numbers
    numbers-most =
        let counted = a.counted found e in
        omega (arith, counted.some, counted.most)

    pub make-numbers : {answer : Said} {out out' : List ℕ}
        → MadeAs (made_with text found.needs (get_or (take found.count xs) 0 0) (drop 1 (take found.count xs))) out out' answer
        → MadeAs (made text) out out' answer
    unfolding made_of
    make-numbers m =
        let here : made text ≡ made_with text found.needs (get_or (take found.count xs) 0 0) (drop 1 (take found.count xs)) =
        rw (← a.answer, e, stored-front a e) in
        rw here m
