-- The words of the pooled list, put together: those of the pairs that are met, the unread words of one of the lists copied after them, and
-- around them the head, the needs and the end word.
use Prim.Native.Nat.{ℕ, ◌+◌, ◌-◌, ◌*◌, ◌^◌, ◌≤◌, ◌<◌}
use mathlib.Core.Bool.{cond}
use mathlib.Core.List.{List, ◌++◌, append_assoc}
use mathlib.Core.Path.{◌≡◌, sym, ◌∙◌, ap}
use native.Mathlib.Omega.{arith}
use lib.Dec.{ltb}
use lib.ListN.{length, take, drop, length-append, length-drop}
use lib.Seq.{length-take-le, drop-drop}
use denote.Ref.{Bor}
use Rattle.buffers.specs.Over.{over}
use Rattle.buffers.proofs.FillLaws.{Filled, filled_put}
use Rattle.words.specs.Word.{register_bits}
use Rattle.list_format.specs.Lists.{pair_count, place_by}
use Rattle.list_format.specs.Write.{three_of}
use Rattle.list_format.proofs.NeedsLaws.{needs-few}
use Rattle.list_format.proofs.ListLaws.{accepted-in}
use Rattle.converter.specs.Convert.{strung}
use Rattle.converter.specs.Marks.{put_at}
use Rattle.merging.specs.Merge.{pooled_pairs, met_of, all_met, words_from, IsUnread, Mergeable}
use Rattle.merging.proofs.MergingLaws.{accepted-walkable, threes-length}
use Rattle.merging.proofs.RestLaws.{rest-words, pooled-words}
use Rattle.pooling.specs.Pool.{PoolRoom}
use Rattle.pooling.proofs.PoolLaws.{OneChip}

-- a part of so many places, up to a place
pub part-size : (xs mid : List ℕ) (end : ℕ) → length xs ≤ end → end ≤ length mid
    → length (take (end - (end - length xs)) (drop (end - length xs) mid)) ≡ length xs
part-size xs mid end h l =
    let left : end - (end - length xs) ≡ length xs = omega arith in
    rw left (length-take-le (length xs) (drop (end - length xs) mid) (rw length-drop (omega arith)))

-- words that take the place of as many
pub part-put : (at k : ℕ) (xs mid part : List ℕ) → k ≡ length xs → part ≡ xs → take at mid ++ (part ++ drop k (drop at mid)) ≡ put_at at xs mid
part-put at k xs mid part e is = rw (is, e, drop-drop)

-- ---- the pairs

module _ {ws vs : List ℕ} {needs count room : ℕ} (g : PoolRoom ws vs needs count room) where
  pub one-chip : OneChip ws vs
  one-chip = record { first = accepted-in ws g.first; second = accepted-in vs g.second; registers_are = g.same; needs_are = g.needed }

  pub front-needs : needs < 2 ^ register_bits
  front-needs = omega (arith, g.needs_are, needs-few ws)

  -- both lists can be walked into the buffer
  pub mergeable : {place : ℕ} → place ≡ place_by needs 0 → Mergeable ws vs place room
  mergeable e = record {
    first = g.first;
    second = g.second;
    small = omega (arith, e, front-needs);
    fits = omega (arith, e, g.count_is, g.places);
  }

-- the unread words of one of the two
abbrev pub rest_words : List ℕ → List ℕ → List ℕ
rest_words ws vs = cond (ltb (met_of vs ws) (pair_count vs)) (words_from vs (met_of vs ws)) (words_from ws (met_of ws vs))

pub unread-words : (s t r : Bor (List ℕ)) → IsUnread s t r → r.now ≡ rest_words s.now t.now
unread-words s t r h = rest-words (ltb (met_of t.now s.now) (pair_count t.now)) s (met_of s.now t.now) t (met_of t.now s.now) r h

module _ {ws vs : List ℕ} {needs count : ℕ} (was : List ℕ) (g : PoolRoom ws vs needs count (length was)) {xs : List ℕ} (is : xs ≡ rest_words ws vs) where
  words_are : strung three_of (pooled_pairs ws vs) ≡ strung three_of (all_met ws vs) ++ xs
  words_are = pooled-words ws vs (accepted-walkable ws g.first) (accepted-walkable vs g.second) ∙ rw is

  pub rest-size : 3 * count ≡ 3 * length (all_met ws vs) + length xs
  rest-size =
      omega (
        arith,
        g.count_is,
        threes-length (pooled_pairs ws vs),
        threes-length (all_met ws vs),
        ap length words_are,
        length-append (strung three_of (all_met ws vs)) xs,
      )

  pub rest_put : (mid after : List ℕ) {place end : ℕ} → place ≡ place_by needs 0 → end ≡ place_by needs count
      → mid ≡ over (take place was ++ strung three_of (all_met ws vs)) was → after ≡ put_at (end - length xs) xs mid
      → after ≡ over (take (1 + needs) was ++ strung three_of (pooled_pairs ws vs)) was
  rest_put mid after {place} {end} p e m a =
      let front : place ≡ 1 + needs = omega (arith, p) in
      let size = length-take-le place was (omega (arith, p, g.places)) in
      let long = length-append (take place was) (strung three_of (all_met ws vs)) in
      let met = threes-length (all_met ws vs) in
      let filled : Filled (take place was ++ strung three_of (all_met ws vs)) was mid =
      record { room = omega (arith, p, size, long, met, rest-size, g.places); is = m } in
      let put = filled_put filled xs after {at = end - length xs} (omega (arith, p, e, size, long, met, rest-size))
      (omega (arith, e, rest-size, g.places)) a in
      let all : (take place was ++ strung three_of (all_met ws vs)) ++ xs ≡ take (1 + needs) was ++ strung three_of (pooled_pairs ws vs) =
      append_assoc (take place was) (strung three_of (all_met ws vs)) xs
      ∙ ap (λ ys. take place was ++ ys) (sym words_are)
      ∙ ap (λ k. take k was ++ strung three_of (pooled_pairs ws vs)) front in
      put.is ∙ ap (λ ys. over ys was) all
