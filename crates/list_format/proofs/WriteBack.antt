-- What was written, read again, is the same count of registers and the same numbers.
-- Numbers that the writer does not refuse fit their fields, so each word is taken apart into the kind and the fields that it was
-- made from (`head-is`, `needs-are`, `word-is`, `pair_is`, `end_is`). The second word is one of needs exactly if such were written
-- (`needs-count`). Hence the reader accepts the list (`list_back`), and finds the numbers that were given, pair by pair (`numbers-back`)
-- and register by register (`needs-back`).
use Prim.Native.Nat.{ℕ, zero, suc, ◌+◌, ◌*◌, ◌%◌, ◌^◌, ◌<◌, ◌≤◌}
use mathlib.Core.Bool.{Bool, true, false, cond, ◌&&◌}
use mathlib.Core.List.{List, [], ◌∷◌, ◌++◌}
use mathlib.Core.Path.{◌≡◌, refl, sym, ◌∙◌, ap, subst}
use native.Mathlib.Omega.{arith}
use lib.Dec.{ltb, eqb}
use lib.ListN.{length, get_or, take, drop, length-append, get_or-append}
use lib.Seq.{take_at, get_or_at, get_or-append-add}
use borrow.Author.Tests.{lt-ltb, le-ltb, ltb-false, eqb-false, eq-eqb, ne_eqb}
use Rattle.timing.specs.declared.Pair.{Pair}
use Rattle.ordering.specs.Order.{not_above, Ascends}
use Rattle.ordering.proofs.OrderLaws.{none_above, ascends_same}
use Rattle.words.specs.Word.{payload_bits, kind_least, kind_greatest, kind_needs, kind_end, kind_of, payload_of}
use Rattle.words.specs.Word.{needs_word, pair_word, end_word, checksum}
use Rattle.words.proofs.WordLaws.{HeadIs, head-of-word, NeedsWordIs, needs-of-word, PairWordIs, pair-of-word, kind-of-word, payload-of-word}
use Rattle.buffers.specs.Run.{run}
use Rattle.buffers.proofs.RunLaws.{run_length, run_at, run_is, take-stretch}
use Rattle.refusals.specs.Checks.{first_fault, each_check, no_fault}
use Rattle.refusals.specs.Reply.{done, unless}
use Rattle.refusals.proofs.CheckLaws.{both-pass, pass-both, passed, passes, each_of}
use Rattle.list_format.specs.Lists.{word, registers, pair_count, need_words_by, need_words, hold_at, setup_at, two_at, needs_of, place_by}
use Rattle.list_format.specs.Lists.{written_at, no_needs, value_checks, order_check, list_checks, WrittenIn}
use Rattle.list_format.specs.Read.{four_of, numbers_of, read_places, read_checks, reading}
use Rattle.list_format.specs.Write.{given_count, given_pair, given_hold, given_setup, given_needs, FitsWords, NeedsFit, one_of, three_of}
use Rattle.list_format.specs.Write.{open_head, open_list}
use Rattle.list_format.specs.Write.{words_of, end_place, count_checks, given_need_checks, given_checks, write_checks, GivenIn}
use Rattle.list_format.proofs.ListLaws.{NeedWordIn, KindsIn, EndIn, ListIn, same, values-in, list-pass}
use Rattle.list_format.proofs.NeedsLaws.{need-zero, hold_at_lem, hold-none, setup-at, setup-none}

-- as many words of needs as registers, or none
module _ (n : ℕ) (ys : List ℕ) where
  pub given-none : no_needs ys ≡ true → given_needs n ys ≡ 0
  unfolding given_needs
  given-none e = rw e

  pub given-all : no_needs ys ≡ false → given_needs n ys ≡ n
  unfolding given_needs
  given-all e = rw e

  all-needs : 0 < given_needs n ys → given_needs n ys ≡ n
  unfolding given_needs
  all-needs = go (no_needs ys)
    where
      go : (none : Bool) → 0 < cond none 0 n → cond none 0 n ≡ n
      go true h = absurd (omega arith)
      go false h = refl

  pub few-needs : given_needs n ys ≤ n
  unfolding given_needs
  few-needs = go (no_needs ys)
    where
      go : (none : Bool) → cond none 0 n ≤ n
      go true = omega arith
      go false = omega arith

module _ (asked : Bool) (n : ℕ) (xs ys : List ℕ) (room : ℕ) (e : first_fault (write_checks asked n xs ys room) ≡ no_fault) where
  -- the checks of pair k: of its values, and of its order
  given-parts : (k : ℕ) → k < given_count xs
      → (first_fault (value_checks n (given_hold ys (given_pair xs k).capture) (given_pair xs k) k k k) ≡ no_fault)
      × (asked && not_above (given_pair xs) k ≡ false)
  given-parts k l =
      let body = both-pass (count_checks n (length xs) (length ys)) _ e in
      let needs = both-pass (each_check (given_need_checks ys) 0 n) _ body.1 in
      let rest = both-pass (each_check (given_checks asked n xs ys) 0 (given_count xs)) _ needs.1 in
      let row = both-pass (value_checks n (given_hold ys (given_pair xs k).capture) (given_pair xs k) k k k) _
      (each_of (given_checks asked n xs ys) (given_count xs) rest.0 k l) in
      (row.0, (passed (order_check asked (given_pair xs) k k ∷ []) row.1).0)

  pub given-in : GivenIn n xs ys
  given-in =
      let body = both-pass (count_checks n (length xs) (length ys)) _ e in
      let h = passed (count_checks n (length xs) (length ys)) body.0 in
      let needs = both-pass (each_check (given_need_checks ys) 0 n) _ body.1 in
      record {
        size = omega (arith, same (length xs % 4) 0 h.0);
        some = omega (arith, eqb-false n 0 h.1.0);
        most = ltb-false _ _ h.1.1.0;
        few = ltb-false _ _ h.1.1.1.0;
        two = same _ _ h.1.1.1.1.0;
        needs = λ r l.
            let w = passed (given_need_checks ys r) (each_of (given_need_checks ys) n needs.0 r l) in
            record { hold = ltb-false _ _ w.0; setup = ltb-false _ _ w.1.0 };
        values = λ k l. values-in n _ (given_pair xs k) k k k (given-parts k l).0;
      }

-- the order that was asked for
pub given-rise : (n : ℕ) (xs ys : List ℕ) (room : ℕ) → first_fault (write_checks true n xs ys room) ≡ no_fault → Ascends (given_pair xs) (given_count xs)
given-rise n xs ys room e = none_above (given_pair xs) (given_count xs) (λ k l. (given-parts true n xs ys room e k l).1)

module _ (n : ℕ) (xs ys : List ℕ) (g : GivenIn n xs ys) where
  pub head-length : length (open_head n xs ys) ≡ 1 + given_needs n ys
  head-length = ap suc (run_length (one_of ys) 1 (λ r. refl) (given_needs n ys)) ∙ omega arith

  pub open-length : length (open_list n xs ys (given_count xs)) ≡ end_place n xs ys
  open-length =
      length-append (open_head n xs ys) _
      ∙ rw (head-length, run_length (λ k. three_of (given_pair xs k)) 3 (λ k. refl) (given_count xs)) (omega arith)

  pub words-length : length (words_of n xs ys) ≡ end_place n xs ys + 1
  words-length = length-append (open_list n xs ys (given_count xs)) _ ∙ ap (λ k. k + 1) open-length

  -- the counts
  pub head-is : HeadIs n (given_count xs) (word (words_of n xs ys) 0)
  head-is = head-of-word n (given_count xs) (omega (arith, g.most)) (omega (arith, g.few))

  -- before the end word
  open_at : (i : ℕ) → i < end_place n xs ys → word (words_of n xs ys) i ≡ get_or (open_list n xs ys (given_count xs)) i 0
  open_at i h = get_or-append (open_list n xs ys (given_count xs)) _ 0 i (omega (arith, open-length))

  -- word j of pair k
  three-at : (k j : ℕ) → k < given_count xs → j < 3 → word (words_of n xs ys) (place_by (given_needs n ys) k + j) ≡ get_or (three_of (given_pair xs k)) j 0
  three-at k j h l =
      let shift : place_by (given_needs n ys) k + j ≡ length (open_head n xs ys) + (3 * k + j) = omega (arith, head-length) in
      open_at (place_by (given_needs n ys) k + j) (omega arith)
      ∙ ap (λ i. get_or (open_list n xs ys (given_count xs)) i 0) shift
      ∙ get_or-append-add (open_head n xs ys) _ (3 * k + j) 0
      ∙ run_at (λ i. three_of (given_pair xs i)) 3 (λ i. refl) (given_count xs) k j h l

  -- the word of needs of register r
  one_at : (r : ℕ) → r < given_needs n ys → word (words_of n xs ys) (1 + r) ≡ needs_word (given_hold ys r) (given_setup ys r)
  one_at r h =
      let place : 1 + r ≡ suc (1 * r + 0) = omega arith in
      open_at (1 + r) (omega arith)
      ∙ get_or-append (open_head n xs ys) _ 0 (1 + r) (omega (arith, head-length))
      ∙ ap (λ i. get_or (open_head n xs ys) i 0) place
      ∙ run_at (one_of ys) 1 (λ i. refl) (given_needs n ys) r 0 h (omega arith)

  -- they fit their words
  pub needs-fit : NeedsFit ys (given_needs n ys)
  needs-fit r h =
      let w = g.needs r (omega (arith, few-needs n ys)) in
      (omega (arith, w.hold), omega (arith, w.setup))

  module _ (r : ℕ) (h : r < given_needs n ys) where
    needs-are : NeedsWordIs (given_hold ys r) (given_setup ys r) (word (words_of n xs ys) (1 + r))
    needs-are = rw (one_at r h) (needs-of-word _ _ (needs-fit r h).0 (needs-fit r h).1)

    need-word-in : NeedWordIn (word (words_of n xs ys) (1 + r))
    need-word-in =
        let w = needs-are in
        record { kind = w.kind; spare = w.spare; needs = rw (w.holds, w.setups) (g.needs r (omega (arith, few-needs n ys))) }

  module _ (k : ℕ) (h : k < given_count xs) where
    first-is : word (words_of n xs ys) (place_by (given_needs n ys) k) ≡ pair_word (given_pair xs k).launch (given_pair xs k).capture
    first-is =
        let z : place_by (given_needs n ys) k + 0 ≡ place_by (given_needs n ys) k = omega arith in
        rw z at (three-at k 0 h (omega arith))

    pub given-fits : FitsWords (given_pair xs k)
    given-fits =
        let v = (g.values k h).values in
        record {
          launch = omega (arith, v.launch, g.most);
          capture = omega (arith, v.capture, g.most);
          least = omega (arith, v.order, v.limit);
          greatest = omega (arith, v.limit);
        }

    word-is : PairWordIs (given_pair xs k).launch (given_pair xs k).capture (pair_word (given_pair xs k).launch (given_pair xs k).capture)
    word-is = pair-of-word _ _ given-fits.launch given-fits.capture

  -- the end word
  front-is : take (end_place n xs ys) (words_of n xs ys) ≡ open_list n xs ys (given_count xs)
  front-is = take_at (open_list n xs ys (given_count xs)) _ (end_place n xs ys) open-length

  last-is : word (words_of n xs ys) (end_place n xs ys) ≡ end_word (checksum (open_list n xs ys (given_count xs)))
  last-is = get_or_at (open_list n xs ys (given_count xs)) _ [] 0 (end_place n xs ys) open-length

  checksum-fits : checksum (open_list n xs ys (given_count xs)) < 2 ^ payload_bits
  checksum-fits = omega arith

  end_is : EndIn (words_of n xs ys) (end_place n xs ys)
  end_is =
      record {
        kind = ap kind_of last-is ∙ kind-of-word kind_end _ checksum-fits;
        payload = ap payload_of last-is ∙ payload-of-word kind_end _ checksum-fits ∙ ap checksum (sym front-is);
      }

  -- without words of needs the second word is that of a pair, or the end
  other-kind : given_needs n ys ≡ 0 → kind_of (word (words_of n xs ys) 1) ≡ kind_needs → ⊥
  other-kind none e = go (given_count xs) refl
    where
      go : (m : ℕ) → given_count xs ≡ m → ⊥
      go zero z =
          let place : end_place n xs ys ≡ 1 = omega arith in
          let kind = rw place at end_is.kind in
          omega (arith, kind, e)
      go (suc m) z =
          let place : place_by (given_needs n ys) 0 ≡ 1 = omega arith in
          let some : 0 < given_count xs = omega arith in
          let kind = rw (sym (rw place at (first-is 0 some))) at (word-is 0 some).kind in
          omega (arith, kind, e)

  pub needs-count : need_words (words_of n xs ys) ≡ given_needs n ys
  unfolding need_words_by
  needs-count = go (given_needs n ys) refl
    where
      go : (needs : ℕ) → given_needs n ys ≡ needs
          → cond (eqb (kind_of (word (words_of n xs ys) 1)) kind_needs) (registers (words_of n xs ys)) 0 ≡ given_needs n ys
      go zero e = rw (ne_eqb _ kind_needs (other-kind e)) (sym e)
      go (suc k) e = rw (eq-eqb _ kind_needs (needs-are 0 (omega arith)).kind) (head-is.registers ∙ sym (all-needs n ys (omega arith)))

  -- pair k
  pub pair_is : (k : ℕ) → k < given_count xs → written_at (words_of n xs ys) k ≡ given_pair xs k
  pair_is k h =
      let fits = given-fits k h in
      rw (
        needs-count,
        first-is k h,
        three-at k 1 h (omega arith),
        three-at k 2 h (omega arith),
        (word-is k h).launched,
        (word-is k h).captured,
        payload-of-word kind_least (given_pair xs k).least fits.least,
        payload-of-word kind_greatest (given_pair xs k).greatest fits.greatest,
      )

  kinds-are : (k : ℕ) → k < given_count xs → KindsIn (word (words_of n xs ys) (place_by (given_needs n ys) k))
      (word (words_of n xs ys) (place_by (given_needs n ys) k + 1)) (word (words_of n xs ys) (place_by (given_needs n ys) k + 2))
  kinds-are k h =
      let fits = given-fits k h in
      record {
        kind = ap kind_of (first-is k h) ∙ (word-is k h).kind;
        spare = rw (first-is k h) (word-is k h).spare;
        least_kind = ap kind_of (three-at k 1 h (omega arith)) ∙ kind-of-word kind_least (given_pair xs k).least fits.least;
        greatest_kind = ap kind_of (three-at k 2 h (omega arith)) ∙ kind-of-word kind_greatest (given_pair xs k).greatest fits.greatest;
      }

  -- the needs of register r
  pub two_back : (r : ℕ) → r < n → (hold_at (words_of n xs ys) r ≡ given_hold ys r) × (setup_at (words_of n xs ys) r ≡ given_setup ys r)
  two_back r h = go (no_needs ys) refl
    where
      go : (none : Bool) → no_needs ys ≡ none → (hold_at (words_of n xs ys) r ≡ given_hold ys r) × (setup_at (words_of n xs ys) r ≡ given_setup ys r)
      go true e =
          let none : need_words (words_of n xs ys) ≡ 0 = needs-count ∙ given-none n ys e in
          let zero-at = need-zero ys e in (
            hold-none (words_of n xs ys) (omega (arith, none)) ∙ sym (zero-at (2 * r)),
            setup-none (words_of n xs ys) (omega (arith, none)) ∙ sym (zero-at (2 * r + 1)),
          )
      go false e =
          let all : need_words (words_of n xs ys) ≡ n = needs-count ∙ given-all n ys e in
          let below : r < given_needs n ys = rw (given-all n ys e) h in
          let w = needs-are r below in
          (hold_at_lem (words_of n xs ys) (omega (arith, all)) ∙ w.holds, setup-at (words_of n xs ys) (omega (arith, all)) ∙ w.setups)

  pub needs-back : needs_of (words_of n xs ys) ≡ ys
  needs-back =
      ap (run (two_at (words_of n xs ys))) head-is.registers
      ∙ run_is (two_at (words_of n xs ys)) 2 (λ r. refl) ys n each g.two
    where
      each : (r : ℕ) → r < n → two_at (words_of n xs ys) r ≡ take 2 (drop (2 * r) ys)
      each r h =
          let back = two_back r h in
          rw (back.0, back.1) (sym (take-stretch 2 ys (2 * r) (omega (arith, g.two))))

  -- words of needs are written only if one is not 0
  needed : ltb 0 (given_needs n ys) && no_needs ys ≡ false
  unfolding given_needs
  needed = go (no_needs ys)
    where
      go : (none : Bool) → ltb 0 (cond none 0 n) && none ≡ false
      go true = refl
      go false = rw (lt-ltb 0 n g.some)

  -- the whole list is accepted
  pub list_back : ListIn (words_of n xs ys)
  list_back =
      record {
        head = record {
          kind = head-is.kind;
          spare = head-is.spare;
          some = rw head-is.registers g.some;
          most = rw head-is.registers g.most;
          few = rw head-is.pairs g.few;
          size = rw (head-is.pairs, needs-count) words-length;
        };
        needs = λ r h. need-word-in r (rw needs-count at h);
        needed = rw (needs-count, needs-back) needed;
        kinds = λ k h. rw needs-count (kinds-are k (rw head-is.pairs at h));
        values = values;
        end = rw (needs-count, head-is.pairs) end_is;
      }
    where
      values : (k : ℕ) → k < pair_count (words_of n xs ys)
          → WrittenIn (registers (words_of n xs ys)) (hold_at (words_of n xs ys) (written_at (words_of n xs ys) k).capture) (written_at (words_of n xs ys) k)
      values k h =
          let below = rw head-is.pairs at h in
          let v = g.values k below in
          subst (λ (p : Pair). WrittenIn (registers (words_of n xs ys)) (hold_at (words_of n xs ys) p.capture) p) (sym (pair_is k below))
          (rw (head-is.registers, (two_back _ v.values.capture).0) v)

  -- its numbers are those given
  pub numbers-back : numbers_of (words_of n xs ys) ≡ xs
  numbers-back =
      ap (run (λ k. four_of (written_at (words_of n xs ys) k))) head-is.pairs
      ∙ run_is (λ k. four_of (written_at (words_of n xs ys) k)) 4 (λ k. refl) xs (given_count xs) each g.size
    where
      each : (k : ℕ) → k < given_count xs → four_of (written_at (words_of n xs ys) k) ≡ take 4 (drop (4 * k) xs)
      each k h =
          let third : 4 * k + 1 + 1 ≡ 4 * k + 2 = omega arith in
          let fourth : 4 * k + 2 + 1 ≡ 4 * k + 3 = omega arith in
          ap four_of (pair_is k h) ∙ sym (take-stretch 4 xs (4 * k) (omega (arith, g.size)) ∙ rw (third, fourth))

  -- pairs that ascend do so in the list
  pub ascends_back : Ascends (given_pair xs) (given_count xs) → Ascends (written_at (words_of n xs ys)) (pair_count (words_of n xs ys))
  ascends_back a = rw head-is.pairs (ascends_same (written_at (words_of n xs ys)) (given_pair xs) (given_count xs) pair_is a)

  pub write-back : Ascends (given_pair xs) (given_count xs) → (room : ℕ) → length xs + length ys ≤ room
      → reading (words_of n xs ys) room ≡ done (n ∷ given_count xs ∷ []) (xs ++ ys)
  unfolding reading unless
  write-back a room h = rw (checks, numbers-back, needs-back, head-is.registers, head-is.pairs)
    where
      checks : first_fault (read_checks (words_of n xs ys) room) ≡ no_fault
      checks =
          let places = read_places (registers (words_of n xs ys)) (pair_count (words_of n xs ys)) in
          pass-both (list_checks (words_of n xs ys)) _ (list-pass (words_of n xs ys) true list_back (λ e. ascends_back a))
          (passes _ (le-ltb room places (omega (arith, g.size, g.two, head-is.pairs, head-is.registers)), tt))
