-- What was read from an accepted list, written again, is that list.
-- The numbers of pair k stand at places 4k to 4k + 3, so the writer gets the pairs of the list (`given_is`), and those of register r at
-- places 2r and 2r + 1 after them (`hold-is`, `setup-is`). It writes words of needs where the list has them, for there the needs are not
-- all 0 (`needs-is`). It makes each word from its kind and its fields, which in an accepted list are those of the word that stood there
-- (`one-is`, `three-is`, `open_is`); the checksum over equal words is the same, and so is the end word (`words_back`). It refuses nothing,
-- for its checks ask no more of the numbers than those of the list (`checks-back`).
use Prim.Native.Nat.{ℕ, zero, suc, ◌+◌, ◌*◌, ◌%◌, ◌<◌, ◌≤◌}
use mathlib.Core.Bool.{Bool, true, false, cond, ◌&&◌}
use mathlib.Core.List.{List, [], ◌∷◌, ◌++◌}
use mathlib.Core.Path.{◌≡◌, refl, sym, ◌∙◌, ap}
use native.Mathlib.Omega.{arith}
use lib.ListN.{length, get_or, take, drop}
use lib.Seq.{take-suc, take_all, take-add, drop-drop}
use borrow.Author.Tests.{lt-ltb, le-ltb, ne_eqb}
use Rattle.timing.specs.declared.Pair.{Pair}
use Rattle.timing.specs.Limits.{max_pairs, max_need}
use Rattle.ordering.specs.Order.{Ascends}
use Rattle.ordering.proofs.OrderLaws.{ascends_same}
use Rattle.words.specs.Word.{kind_least, kind_greatest, kind_end, word_of, kind_of, payload_of}
use Rattle.words.proofs.WordLaws.{word-of-parts, word-of-head, word-of-needs, word-of-pair}
use Rattle.buffers.specs.Run.{run}
use Rattle.buffers.proofs.RunLaws.{run_length, run_at, run-front, take-stretch}
use Rattle.refusals.specs.Checks.{first_fault, each_check, no_fault}
use Rattle.refusals.specs.Reply.{done, unless}
use Rattle.refusals.proofs.CheckLaws.{pass-both, passes, all_of}
use Rattle.list_format.specs.Lists.{word, registers, pair_count, need_words, hold_at, setup_at, needs_of, pair_place, written_at}
use Rattle.list_format.specs.Lists.{no_needs, value_checks}
use Rattle.list_format.specs.Read.{four_of, numbers_of}
use Rattle.list_format.specs.Write.{given_count, given_pair, given_hold, given_setup, given_needs, one_of, three_of, open_head, open_list, with_end}
use Rattle.list_format.specs.Write.{words_of, end_place, count_checks, given_need_checks, given_checks, write_checks, writing_by}
use Rattle.list_format.proofs.ListLaws.{ListIn, no_difference, values-pass, order-pass, needs-within}
use Rattle.list_format.proofs.NeedsLaws.{hold_at_lem, setup-at, needs-all, needs-length, need-at, needs-none}

-- a word of a kind, from its payload
of-kind : (kind w : ℕ) → kind_of w ≡ kind → word_of kind (payload_of w) ≡ w
of-kind kind w e = rw (← e) (word-of-parts w)

module _ (ws : List ℕ) where
  pub numbers-length : length (numbers_of ws) ≡ 4 * pair_count ws
  numbers-length = run_length (λ k. four_of (written_at ws k)) 4 (λ k. refl) (pair_count ws)

  pub count-is : given_count (numbers_of ws) ≡ pair_count ws
  count-is = omega (arith, numbers-length)

  -- number j of pair k
  pub number_at : (k : ℕ) → k < pair_count ws → (j : ℕ) → j < 4 → get_or (numbers_of ws) (4 * k + j) 0 ≡ get_or (four_of (written_at ws k)) j 0
  number_at k h j b = run_at (λ i. four_of (written_at ws i)) 4 (λ i. refl) (pair_count ws) k j h b

  -- the needs of register r
  module _ {r : ℕ} (h : r < registers ws) where
    pub hold-is : given_hold (needs_of ws) r ≡ hold_at ws r
    hold-is =
        let z : 2 * r + 0 ≡ 2 * r = omega arith in
        rw z at (need-at ws r h 0 (omega arith))

    pub setup-is : given_setup (needs_of ws) r ≡ setup_at ws r
    setup-is = need-at ws r h 1 (omega arith)

module _ (ws : List ℕ) (l : ListIn ws) where
  -- pair k of the numbers is pair k of the list
  pub given_is : (k : ℕ) → k < pair_count ws → given_pair (numbers_of ws) k ≡ written_at ws k
  given_is k h =
      let z : 4 * k ≡ 4 * k + 0 = omega arith in
      let at = number_at ws k h in
      rw (at 1 (omega arith), at 2 (omega arith), at 3 (omega arith), z, at 0 (omega arith))

  -- as many words of needs are written as the list has
  pub needs-is : given_needs (registers ws) (needs_of ws) ≡ need_words ws
  unfolding given_needs
  needs-is = go (need_words ws) refl
    where
      none : (b : Bool) → true && b ≡ false → b ≡ false
      none b e = e

      go : (needs : ℕ) → need_words ws ≡ needs → cond (no_needs (needs_of ws)) 0 (registers ws) ≡ need_words ws
      go zero e = rw (needs-none ws e) (sym e)
      go (suc k) e =
          let some = none _ (rw (lt-ltb 0 (need_words ws) (omega arith)) at l.needed) in
          rw some (sym (needs-all ws (omega arith)))

  few-needs : need_words ws ≤ registers ws
  few-needs = go (need_words ws) refl
    where
      go : (needs : ℕ) → need_words ws ≡ needs → need_words ws ≤ registers ws
      go zero e = omega arith
      go (suc k) e = omega (arith, needs-all ws (omega arith))

  -- the word of needs of register r is that of the list
  pub one-is : (r : ℕ) → r < need_words ws → one_of (needs_of ws) r ≡ take 1 (drop (1 * r) (drop 1 ws))
  one-is r h =
      let below : r < registers ws = omega (arith, few-needs) in
      let place : 1 + 1 * r ≡ 1 + r = omega arith in
      let w = l.needs r h in
      rw (
        hold-is ws below,
        setup-is ws below,
        hold_at_lem ws h,
        setup-at ws h,
        word-of-needs (word ws (1 + r)) w.kind w.spare,
        drop-drop,
        place,
        take-stretch 1 ws (1 + r) (omega (arith, l.head.size)),
      )

  -- the three words of a pair are those of the list
  three-is : (k : ℕ) → k < pair_count ws → three_of (given_pair (numbers_of ws) k) ≡ take 3 (drop (3 * k) (drop (1 + need_words ws) ws))
  three-is k h =
      let kinds = l.kinds k h in
      let start : 1 + need_words ws + 3 * k ≡ pair_place ws k = omega arith in
      let third : pair_place ws k + 1 + 1 ≡ pair_place ws k + 2 = omega arith in
      ap three_of (given_is k h)
      ∙ rw (
        drop-drop,
        start,
        take-stretch 3 ws (pair_place ws k) (omega (arith, l.head.size)),
        third,
        word-of-pair (word ws (pair_place ws k)) kinds.kind kinds.spare,
        of-kind kind_least (word ws (pair_place ws k + 1)) kinds.least_kind,
        of-kind kind_greatest (word ws (pair_place ws k + 2)) kinds.greatest_kind,
      )

  -- the head and the words of needs
  head-is : open_head (registers ws) (numbers_of ws) (needs_of ws) ≡ take (1 + need_words ws) ws
  head-is =
      let first : take 1 ws ≡ word ws 0 ∷ [] = take-stretch 1 ws 0 (omega (arith, l.head.size)) in
      let wide : 1 * need_words ws ≡ need_words ws = omega arith in
      rw (
        count-is ws,
        needs-is,
        run-front (one_of (needs_of ws)) 1 (λ r. refl) (drop 1 ws) (need_words ws) one-is,
        word-of-head (word ws 0) l.head.kind l.head.spare,
        wide,
        take-add 1 (need_words ws) ws,
        first,
      )

  -- and the pairs
  open_is : open_list (registers ws) (numbers_of ws) (needs_of ws) (pair_count ws) ≡ take (pair_place ws (pair_count ws)) ws
  open_is =
      let place : pair_place ws (pair_count ws) ≡ 1 + need_words ws + 3 * pair_count ws = omega arith in
      ap (λ front. front ++ run (λ k. three_of (given_pair (numbers_of ws) k)) (pair_count ws)) head-is
      ∙ rw (
        run-front (λ k. three_of (given_pair (numbers_of ws) k)) 3 (λ k. refl) (drop (1 + need_words ws) ws) (pair_count ws) three-is,
        place,
        take-add (1 + need_words ws) (3 * pair_count ws) ws,
      )

  -- the whole list
  pub words_back : words_of (registers ws) (numbers_of ws) (needs_of ws) ≡ ws
  words_back =
      let at : ℕ = pair_place ws (pair_count ws) in
      ap with_end (ap (open_list (registers ws) (numbers_of ws) (needs_of ws)) (count-is ws) ∙ open_is)
      ∙ rw (← l.end.payload, of-kind kind_end (word ws at) l.end.kind)
      (sym (take-suc ws at 0 (omega (arith, l.head.size))) ∙ take_all (suc at) ws (omega (arith, l.head.size)))

  -- pairs that ascend in the list do so in its numbers
  given-ascends : Ascends (written_at ws) (pair_count ws) → Ascends (given_pair (numbers_of ws)) (given_count (numbers_of ws))
  given-ascends a = rw (count-is ws) (ascends_same (given_pair (numbers_of ws)) (written_at ws) (pair_count ws) given_is a)

  -- the writer refuses none of it, and the order only where it is asked for
  checks-back : (asked : Bool) → (asked ≡ true → Ascends (written_at ws) (pair_count ws)) → (room : ℕ) → length ws ≤ room
      → first_fault (write_checks asked (registers ws) (numbers_of ws) (needs_of ws) room) ≡ no_fault
  checks-back asked a room h =
      pass-both (count_checks (registers ws) (length (numbers_of ws)) (length (needs_of ws))) _ counts
      (pass-both (each_check (given_need_checks (needs_of ws)) 0 (registers ws)) _ (all_of (given_need_checks (needs_of ws)) (registers ws) needs)
      (pass-both (each_check (given_checks asked (registers ws) (numbers_of ws) (needs_of ws)) 0 (given_count (numbers_of ws))) _
      (all_of (given_checks asked (registers ws) (numbers_of ws) (needs_of ws)) (given_count (numbers_of ws)) each)
      (passes _ (le-ltb room (end_place (registers ws) (numbers_of ws) (needs_of ws) + 1) (omega (arith, l.head.size, count-is ws, needs-is)), tt))))
    where
      counts : first_fault (count_checks (registers ws) (length (numbers_of ws)) (length (needs_of ws))) ≡ no_fault
      counts =
          passes (count_checks (registers ws) (length (numbers_of ws)) (length (needs_of ws))) (
            no_difference (length (numbers_of ws) % 4) 0 (omega (arith, numbers-length ws)),
            (
              ne_eqb (registers ws) 0 (λ e. omega (arith, l.head.some)),
              (
                le-ltb _ _ l.head.most,
                (le-ltb max_pairs (given_count (numbers_of ws)) (omega (arith, l.head.few, count-is ws)), (no_difference _ _ (needs-length ws), tt)),
              ),
            ),
          )

      needs : (r : ℕ) → r < registers ws → first_fault (given_need_checks (needs_of ws) r) ≡ no_fault
      needs r b =
          let w = needs-within ws l r in
          passes (given_need_checks (needs_of ws) r) (
            le-ltb max_need (given_hold (needs_of ws) r) (rw (hold-is ws b) w.hold),
            (le-ltb max_need (given_setup (needs_of ws) r) (rw (setup-is ws b) w.setup), tt),
          )

      each : (k : ℕ) → k < given_count (numbers_of ws) → first_fault (given_checks asked (registers ws) (numbers_of ws) (needs_of ws) k) ≡ no_fault
      each k b =
          let below : k < pair_count ws = omega (arith, count-is ws) in
          let v = l.values k below in
          let p : Pair = given_pair (numbers_of ws) k in
          pass-both (value_checks (registers ws) (given_hold (needs_of ws) p.capture) p k k k) _
          (ap (λ p. first_fault (value_checks (registers ws) (given_hold (needs_of ws) p.capture) p k k k)) (given_is k below)
          ∙ values-pass (registers ws) (given_hold (needs_of ws) (written_at ws k).capture) (written_at ws k) k k k
          (record { values = v.values; holds = rw (hold-is ws v.values.capture) v.holds }))
          (order-pass asked (given_pair (numbers_of ws)) k (λ e. given-ascends (a e)) b)

  pub read_back : (asked : Bool) → (asked ≡ true → Ascends (written_at ws) (pair_count ws)) → (room : ℕ) → length ws ≤ room
      → writing_by asked (registers ws) (numbers_of ws) (needs_of ws) room ≡ done (length ws ∷ []) ws
  unfolding writing_by unless
  read_back asked a room h = rw (checks-back asked a room h, words_back, count-is ws, needs-is, ← l.head.size)
