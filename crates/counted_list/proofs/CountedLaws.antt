-- The words that were counted in, at the front of a buffer, are a list of the same registers and the same pairs.
-- Each pair fits its words, so it is read from them as it was (`written_is`). The second word, that of a pair, is none of needs: nothing
-- is counted in twice (`pair_is`).
use Prim.Native.Nat.{ℕ, zero, suc, ◌+◌, ◌*◌, ◌<◌, ◌≤◌}
use mathlib.Core.List.{List}
use mathlib.Core.Path.{◌≡◌, refl, sym, ◌∙◌, ap}
use mathlib.Core.Bool.{Bool, true, false, cond}
use native.Mathlib.Omega.{arith}
use lib.Dec.{eqb}
use lib.ListN.{length, get_or, get_or-append}
use Rattle.timing.specs.Limits.{max_pairs}
use Rattle.words.specs.Word.{kind_least, kind_greatest, kind_needs, kind_of, pair_word}
use Rattle.words.proofs.WordLaws.{pair-of-word, payload-of-word}
use Rattle.buffers.specs.Over.{over}
use Rattle.buffers.proofs.FillLaws.{filled-size}
use Rattle.buffers.proofs.RunLaws.{run_length, run_at}
use Rattle.list_format.specs.Lists.{word, registers, pair_count, need_words, need_words_by, place_by, written_at, pair_at}
use Rattle.list_format.specs.Lists.{pairs_from, pairs, first_needs, IsUsable, UsableList, PairIn}
use Rattle.list_format.specs.Write.{FitsWords, three_of}
use Rattle.list_format.proofs.ListLaws.{none_below}
use Rattle.list_format.proofs.NeedsLaws.{hold-none, counting-none}
use Rattle.counted_list.specs.Counted.{counted_in, Countable}

pub counted-length : (ws : List ℕ) → length (counted_in ws) ≡ place_by 0 (pair_count ws)
counted-length ws = ap suc (run_length (λ k. three_of (pair_at ws k)) 3 (λ k. refl) (pair_count ws)) ∙ omega arith

module _ {ws : List ℕ} {m : ℕ} {was : List ℕ} (c : Countable ws m was) where
  pub counted-in : {k : ℕ} → k < m → PairIn ws k
  counted-in h = record { usable = c.usable; below = omega (arith, c.pairs_are) }

  pub counted-few : m ≤ max_pairs
  counted-few = omega (arith, c.pairs_are, c.usable.few)

  -- a pair fits its words
  pub counted-fits : (k : ℕ) → k < m → FitsWords (pair_at ws k)
  counted-fits k h =
      let v = c.usable.values k (omega (arith, c.pairs_are)) in
      record {
        launch = omega (arith, v.launch, c.usable.most);
        capture = omega (arith, v.capture, c.usable.most);
        least = omega (arith, v.order, v.limit);
        greatest = omega (arith, v.limit);
      }

  -- ---- the buffer afterwards

  abbrev now : List ℕ
  now = over (counted_in ws) was

  three-at : (k j : ℕ) → k < m → j < 3 → word now (place_by 0 k + j) ≡ get_or (three_of (pair_at ws k)) j 0
  three-at k j h l =
      let place : place_by 0 k + j ≡ suc (3 * k + j) = omega arith in
      ap (word now) place
      ∙ get_or-append (counted_in ws) _ 0 (suc (3 * k + j)) (omega (arith, counted-length ws, c.pairs_are))
      ∙ run_at (λ i. three_of (pair_at ws i)) 3 (λ i. refl) (pair_count ws) k j (omega (arith, c.pairs_are)) l

  -- the second word is that of the first pair
  second-pair : 0 < m → word now 1 < first_needs
  second-pair h =
      let f = counted-fits 0 h in
      let is : word now 1 ≡ pair_word (pair_at ws 0).launch (pair_at ws 0).capture = three-at 0 0 h (omega arith) in
      omega (arith, is, f.launch, f.capture)

  none_needed : 0 < m → need_words now ≡ 0
  none_needed h = none_below now (second-pair h)

  written_is : (k : ℕ) → k < m → written_at now k ≡ pair_at ws k
  written_is k h =
      let f = counted-fits k h in
      let p = pair_at ws k in
      let zero-at : place_by 0 k + 0 ≡ place_by 0 k = omega arith in
      let w = pair-of-word p.launch p.capture f.launch f.capture in
      rw (
        none_needed (omega arith),
        rw zero-at at (three-at k 0 h (omega arith)),
        three-at k 1 h (omega arith),
        three-at k 2 h (omega arith),
        w.launched,
        w.captured,
        payload-of-word kind_least p.least f.least,
        payload-of-word kind_greatest p.greatest f.greatest,
      )

  pair_is : (k : ℕ) → k < m → pair_at now k ≡ pair_at ws k
  unfolding pair_at
  pair_is k h = sym (counting-none now (written_at now k) (none_needed (omega arith))) ∙ written_is k h

  -- ---- it is a list of the same registers and the same pairs

  few_words : need_words now ≤ registers ws
  unfolding need_words_by
  few_words = go (eqb (kind_of (word now 1)) kind_needs)
    where
      go : (is : Bool) → cond is (registers ws) 0 ≤ registers ws
      go true = omega arith
      go false = omega arith

  now-length : length now ≡ length was
  now-length =
      filled-size {xs = counted_in ws} {was = was} (record { room = omega (arith, counted-length ws, c.room, c.pairs_are); is = refl })

  counted_is : IsUsable now
  counted_is =
      let u = c.usable in
      record {
        some = u.some;
        most = u.most;
        few = u.few;
        size = omega (arith, few_words, now-length, c.room, c.pairs_are);
        second = λ some large. absurd (omega (arith, second-pair (omega (arith, c.pairs_are))));
        holds = λ k h.
            let none = none_needed (omega (arith, c.pairs_are)) in
            rw (hold-none now {r = (written_at now k).capture} (omega (arith, none))) (omega arith);
        values = λ k h. rw (pair_is k (omega (arith, c.pairs_are))) (u.values k h);
      }

  pub counted-usable : {n : ℕ} → n ≡ registers ws → UsableList now n m
  counted-usable e = record { usable = counted_is; registers_are = e; pairs_are = c.pairs_are }

  same_from : (k left : ℕ) → k + left ≤ m → pairs_from now k left ≡ pairs_from ws k left
  unfolding pairs_from
  same_from k zero h = refl
  same_from k (suc left) h = rw (pair_is k (omega arith), same_from (k + 1) left (omega arith))

  pub counted-pairs : pairs now ≡ pairs ws
  counted-pairs = same_from 0 (pair_count ws) (omega (arith, c.pairs_are))
