-- A reader meets every pair of its list once and in order, and then the end, however often it is asked. With the needs counted in they
-- are the pairs that the jobs take.
-- By recursion on the pairs left: each turn meets one and goes on to the next; past the last, the reader stays at the end.
use Prim.Native.Nat.{ℕ, zero, suc, ◌+◌, ◌<◌, ◌≤◌}
use mathlib.Core.Bool.{Bool, true, false, cond}
use mathlib.Core.List.{List, ◌∷◌, map}
use mathlib.Core.Path.{◌≡◌, refl, sym, ap}
use native.Mathlib.Omega.{arith}
use borrow.Author.Tests.{ltb-true, ltb-false, lt-ltb, le-ltb}
use lib.Dec.{ltb}
use Rattle.std.specs.Prelude.{Option, Some, None}
use Rattle.timing.specs.declared.Pair.{Pair}
use Rattle.list_format.specs.Lists.{pair_count, written_at, counting_needs, pair_at, pairs_from, pairs}
use Rattle.list_format.specs.Walk.{next_at, before, walk}

-- what a reader comes to at a place: a pair of the list, or the end
some_pair : Pair → Option Pair → Pair
some_pair p (Some q) = q
some_pair p None = p

is_some : Option Pair → Bool
is_some (Some q) = true
is_some None = false

module _ (ws : List ℕ) (k : ℕ) where
  below-by : (below : Bool) → ltb k (pair_count ws) ≡ below → {n : Option Pair} → n ≡ cond below (Some (written_at ws k)) None → is_some n ≡ below
  unfolding is_some
  below-by true b e = rw e
  below-by false b e = rw e

  pub next-below : {p : Pair} → Some p ≡ next_at ws k → k < pair_count ws
  unfolding is_some
  next-below e = ltb-true k (pair_count ws) (sym (below-by (ltb k (pair_count ws)) refl e))

  pub next-is : {p : Pair} → Some p ≡ next_at ws k → p ≡ written_at ws k
  unfolding some_pair
  next-is {p} e =
      ap (some_pair p) (rw (lt-ltb k (pair_count ws) (next-below e)) at e)

  pub next-none : None ≡ next_at ws k → pair_count ws ≤ k
  unfolding is_some
  next-none e = ltb-false k (pair_count ws) (sym (below-by (ltb k (pair_count ws)) refl e))

module _ (ws : List ℕ) where
  walk_from : (k left turns : ℕ) → k + left ≡ pair_count ws → left ≤ turns → map (counting_needs ws) (walk ws k turns) ≡ pairs_from ws k left
  unfolding before walk pair_at pairs_from
  walk_from k zero zero e h = refl
  walk_from k zero (suc turns) e h = rw (le-ltb k (pair_count ws) (omega arith))
  walk_from k (suc left) zero e h = absurd (omega arith)
  walk_from k (suc left) (suc turns) e h =
      rw (lt-ltb k (pair_count ws) (omega arith))
      (ap (λ ps. pair_at ws k ∷ ps) (walk_from (k + 1) left turns (omega arith) (omega arith)))

  pub walk-all : (turns : ℕ) → pair_count ws ≤ turns → map (counting_needs ws) (walk ws 0 turns) ≡ pairs ws
  walk-all turns h = walk_from 0 (pair_count ws) turns (omega arith) h
