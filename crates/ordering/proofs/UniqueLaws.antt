-- Pairs that ascend are known by the joining properties that hold of each of them.
use Prim.Native.Nat.{◌≤◌, ◌<◌}
use native.Mathlib.Omega.{arith}
use mathlib.Core.List.{List, [], ◌∷◌}
use mathlib.Core.Path.{◌≡◌, refl}
use Rattle.timing.specs.declared.Pair.{Pair}
use Rattle.timing.specs.Rules.{Each}
use Rattle.timing.proofs.EachLaws.{each_map, each-zip}
use Rattle.ordering.specs.Order.{key_of, Ascending, Narrow, joined, SameEnds, Joins}
use Rattle.ordering.proofs.OrderLaws.{key-ends, ends-key}

-- not before the pair q, and with the same key, with delays within those of q
abbrev Within : Pair → Pair → Type 0
Within q p = (key_of q ≤ key_of p) × (key_of p ≤ key_of q → (q.least ≤ p.least) × (p.greatest ≤ q.greatest))

within-joins : (q : Pair) → Joins (Within q)
within-joins q = record { parts = parts; whole = whole }
  where
    parts : (p r : Pair) → SameEnds p r → Within q (joined p r) → Within q p × Within q r
    parts p r e h = ((omega arith, λ l. let d = h.1 l in omega arith), (omega arith, λ l. let d = h.1 (omega arith) in omega arith))

    whole : (p r : Pair) → SameEnds p r → Within q p → Within q r → Within q (joined p r)
    whole p r e h g = (h.0, λ l. let d = h.1 l in let d' = g.1 (omega arith) in omega arith)

-- a property of the pairs after the pair q
abbrev Later : Pair → (Pair → Type 0) → Pair → Type 0
Later q P p = key_of q < key_of p → P p

later-joins : (q : Pair) (P : Pair → Type 0) → Joins P → Joins (Later q P)
later-joins q P joins = record { parts = parts; whole = λ p r e h g l. joins.whole p r e (h l) (g (omega (arith, ends-key p r e))) }
  where
    parts : (p r : Pair) → SameEnds p r → Later q P (joined p r) → Later q P p × Later q P r
    parts p r e h = (λ l. (joins.parts p r e (h l)).0, λ l. (joins.parts p r e (h (omega arith))).1)

-- a property of no pair
none-joins : Joins (λ p. ⊥)
none-joins = record { parts = λ p q e h. absurd h; whole = λ p q e h g. h }

-- what holds of each of the pairs qs, and joins, holds of each of rs
abbrev Carries : List Pair → List Pair → Type 1
Carries qs rs = (P : Pair → Type 0) → Joins P → Each P qs → Each P rs

-- the first pairs and those that follow
module _ (q r : Pair) (qs rs : List Pair) (above : Each (λ p. key_of q < key_of p) qs) (carries : Carries (q ∷ qs) (r ∷ rs)) where
  first-within : Within q r
  first-within =
      let all : Each (Within q) (q ∷ qs) = ((omega arith, λ l. omega arith), each_map (λ p l. (omega arith, λ m. absurd (omega arith))) qs above) in
      (carries (Within q) (within-joins q) all).0

  rest-carries : key_of q ≡ key_of r → Each (λ p. key_of r < key_of p) rs → Carries qs rs
  rest-carries e after = λ P joins h.
      let all : Each (Later q P) (q ∷ qs) = (λ l. absurd (omega arith), each_map (λ p x l. x) qs h) in
      each-zip (λ p l x. x (omega arith)) rs after (carries (Later q P) (later-joins q P joins) all).1

same-pair : (q r : Pair) → SameEnds q r → q.least ≡ r.least → q.greatest ≡ r.greatest → q ≡ r
same-pair q r e l g = rw (e.0, e.1, l, g)

pub ascending-unique : (qs rs : List Pair) → Narrow qs → Narrow rs → Ascending qs → Ascending rs
    → ((P : Pair → Type 0) → Joins P → Each P qs → Each P rs) → ((P : Pair → Type 0) → Joins P → Each P rs → Each P qs) → qs ≡ rs
ascending-unique [] [] nq nr aq ar to back = refl
ascending-unique [] (r ∷ rs) nq nr aq ar to back = absurd (to (λ p. ⊥) none-joins tt).0
ascending-unique (q ∷ qs) [] nq nr aq ar to back = absurd (back (λ p. ⊥) none-joins tt).0
ascending-unique (q ∷ qs) (r ∷ rs) nq nr aq ar to back =
    let there : Within q r = first-within q r qs rs aq.0 to in
    let here : Within r q = first-within r q rs qs ar.0 back in
    let key : key_of q ≡ key_of r = omega arith in
    let d = there.1 here.0 in
    let d' = here.1 there.0 in
    let first : q ≡ r = same-pair q r (key-ends q r nq.0 nr.0 key) (omega arith) (omega arith) in
    let key' : key_of r ≡ key_of q = omega arith in
    rw (
      first,
      ascending-unique qs rs nq.1 nr.1 aq.1 ar.1 (rest-carries q r qs rs aq.0 to key ar.0)
          (rest-carries r q rs qs ar.0 back key' aq.0),
    )
