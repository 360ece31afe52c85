-- Counting the pooled pairs: so many are met where both lists are walked together to pairs i and j.
use Prim.Native.Nat.{ℕ, ◌+◌, ◌-◌, ◌^◌, ◌≤◌, ◌<◌}
use mathlib.Core.List.{List, [], ◌∷◌}
use mathlib.Core.Bool.{true}
use mathlib.Core.Logic.{◌⊎◌}
use mathlib.Core.Path.{◌≡◌, refl, ◌∙◌, ap}
use native.Mathlib.Omega.{arith}
use lib.Dec.{ltb}
use lib.ListN.{length, length-append}
use borrow.Author.Tests.{ltb-true}
use Rattle.timing.specs.declared.Pair.{Pair}
use Rattle.timing.specs.Limits.{max_pairs}
use Rattle.ordering.specs.Order.{ordered}
use Rattle.list_format.specs.Lists.{pair_count, written_at, PairIn, IsWritten}
use Rattle.list_format.proofs.ListLaws.{accepted-in, accepted-usable}
use Rattle.converter.specs.Convert.{written_from}
use Rattle.merging.specs.Merge.{pooled_pairs, met_pairs}
use Rattle.merging.specs.Turn.{lower_of, place_past}
use Rattle.merging.proofs.MergeLaws.{Walkable, Walked, walked_start, walked-turn, met-turn, turn-falls}
use Rattle.merging.proofs.MergingLaws.{accepted-walkable}
use Rattle.merging.proofs.RestLaws.{finished-count, pooled-most}
use Rattle.pooling.specs.Pool.{Listed}

pub record Counting (ws vs : List ℕ) (i j count : ℕ) : Type 0 where
  pub walked : Walked ws vs i j
  pub count_is : count ≡ length (met_pairs ws vs i j)
  pub few : count ≤ i + j

module _ (ws vs : List ℕ) (u : Walkable ws) (v : Walkable vs) where
  pub counting-start : Counting ws vs 0 0 0
  unfolding ordered written_from
  counting-start = record { walked = walked_start ws vs u v; count_is = refl; few = omega arith }

  module _ {i j count : ℕ} (h : Counting ws vs i j count) where
    -- a turn with a pair of each
    pub counting-turn : i < pair_count ws → j < pair_count vs → {p q : Pair} {i' j' : ℕ} → p ≡ written_at ws i → q ≡ written_at vs j
        → i' ≡ place_past i p q → j' ≡ place_past j q p
        → Counting ws vs i' j' (count + 1) × (pair_count ws - i' + (pair_count vs - j') < pair_count ws - i + (pair_count vs - j))
    counting-turn l r {p} {q} a b d e =
        let one : Pair = written_at ws i in
        let other : Pair = written_at vs j in
        let w = walked-turn ws vs u v h.walked l r in
        let falls = turn-falls ws vs u v h.walked l r in
        let size = ap length (met-turn ws vs u v h.walked l r) ∙ length-append (met_pairs ws vs i j) (lower_of one other ∷ []) in
        rw (d, e, a, b) (
          record { walked = w; count_is = omega (arith, h.count_is, size); few = omega (arith, h.few, falls, w.left.bound, w.right.bound) },
          falls,
        )

    -- with what is unread, where one list is at its end
    pub counting-end : (pair_count ws ≤ i) ⊎ (pair_count vs ≤ j) → count + (pair_count ws - i) + (pair_count vs - j) ≡ length (pooled_pairs ws vs)
    counting-end end = omega (arith, h.count_is, finished-count ws vs u v (record { walked = h.walked; end = end }))

-- a pair of an accepted list can be taken
pub listed-pair : {ws : List ℕ} {m i : ℕ} → Listed ws m → i < m → PairIn ws i
listed-pair {ws} l h = record { usable = accepted-usable ws l.accepted; below = omega (arith, h, l.pairs_are) }

pub listed-few : {ws : List ℕ} {m : ℕ} → Listed ws m → m ≤ max_pairs
listed-few {ws} l = omega (arith, l.pairs_are, (accepted-in ws l.accepted).head.few)

-- a turn of the loop, by its two tests, the pairs that it takes and the places that it goes on to
pub counted-turn : {ws vs : List ℕ} {m k i j count : ℕ} → Listed ws m → Listed vs k → Counting ws vs i j count → i < m
    → ltb j k ≡ true → {p q : Pair} {i' j' : ℕ} → IsWritten ws i p → IsWritten vs j q → i' ≡ place_past i p q → j' ≡ place_past j q p
    → Counting ws vs i' j' (count + 1) × (m - i' + (k - j') < m - i + (k - j))
counted-turn {ws} {vs} {k = k} {j = j} l r h a b p q d e =
    let below = ltb-true j k b in
    let t = counting-turn ws vs (accepted-walkable ws l.accepted) (accepted-walkable vs r.accepted) h (omega (arith, a, l.pairs_are))
    (omega (arith, below, r.pairs_are)) p.same q.same d e in
    (t.0, rw (l.pairs_are, r.pairs_are) t.1)

-- the end: one of the tests failed
pub counted-end : {ws vs : List ℕ} {m k i j count : ℕ} → Listed ws m → Listed vs k → Counting ws vs i j count
    → (m ≤ i) ⊎ (k ≤ j) → (count + (m - i) + (k - j) ≡ length (pooled_pairs ws vs)) × (count + (m - i) + (k - j) ≤ m + k)
counted-end {ws} {vs} {m = m} {k = k} {i} {j} {count} l r h end =
    let e : count + (m - i) + (k - j) ≡ length (pooled_pairs ws vs) =
    rw (l.pairs_are, r.pairs_are)
    (counting-end ws vs (accepted-walkable ws l.accepted) (accepted-walkable vs r.accepted) h (rw (l.pairs_are, r.pairs_are) at end)) in
    (e, omega (arith, e, pooled-most ws vs, l.pairs_are, r.pairs_are))

-- so many are met, and so many are left
pub record Bounded (m k i j count : ℕ) : Type 0 where
  pub left : i ≤ m
  pub right : j ≤ k
  pub few : count ≤ m + k
  pub small : m + k < 2 ^ 32

pub counted-bound : {ws vs : List ℕ} {m k i j count : ℕ} → Listed ws m → Listed vs k → Counting ws vs i j count
    → Bounded m k i j count
counted-bound l r h =
    let left = h.walked.left.bound in
    let right = h.walked.right.bound in
    record {
      left = omega (arith, left, l.pairs_are);
      right = omega (arith, right, r.pairs_are);
      few = omega (arith, h.few, left, right, l.pairs_are, r.pairs_are);
      small = omega (arith, listed-few l, listed-few r);
    }
