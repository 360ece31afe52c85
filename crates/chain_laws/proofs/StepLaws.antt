-- One step, as a fact.
-- A step that stands at a node is a fact (`Step`), which says from which of its ends it leads to which.
use mathlib.Core.Bool.{Bool, true, false, not, cond, ◌&&◌, ◌||◌}
use mathlib.Core.List.{List}
use mathlib.Core.Path.{◌≡◌, refl, ap, sym, ◌∙◌}
use Prim.Native.Nat.{ℕ, ◌<◌}
use native.Mathlib.Omega.{arith}
use lib.Dec.{ltb, eqb}
use lib.ListN.{length}
use borrow.Author.Tests.{ltb-true, eqb-true, eq-eqb}
use Rattle.timing.specs.declared.Pair.{Pair}
use Rattle.timing.proofs.RuleLaws.{and-true}
use Rattle.split_laws.specs.Choices.{broken_row}
use Rattle.chain_laws.specs.Chains.{node, index_of, row_of, step_pair, launch_late, capture_late, stands, next}

-- ---- nodes

pub node-is : (r q : ℕ) (a b : Bool) → node r a ≡ node q b → (r ≡ q) × (a ≡ b)
node-is r q true true e = (omega arith, refl)
node-is r q true false e = absurd (omega arith)
node-is r q false true e = absurd (omega arith)
node-is r q false false e = (omega arith, refl)

pub not-not : (b : Bool) → not (not b) ≡ b
not-not true = refl
not-not false = refl

-- ---- one step, as a fact

-- with choice a at its launch and b at its capture it leads from x to y, from its launch on or from its capture on
pub data Ends (p : Pair) (a b : Bool) (x y : ℕ) : Type 0 where
  ahead : x ≡ node p.launch a → y ≡ node p.capture (not b) → Ends p a b x y
  back : x ≡ node p.capture b → y ≡ node p.launch (not a) → Ends p a b x y

pub record Step (t s : ℕ) (ps : List Pair) (e x y : ℕ) : Type 0 where
  pub place : index_of e < length ps
  pub breaks : broken_row t s (step_pair ps e) (row_of e) ≡ true
  pub ends : Ends (step_pair ps e) (launch_late e) (capture_late e) x y

module _ (p : Pair) (a b : Bool) where
  pub ends_next : (x y : ℕ) → Ends p a b x y
      → (eqb x (node p.launch a) || eqb x (node p.capture b) ≡ true)
      × (cond (eqb x (node p.launch a)) (node p.capture (not b)) (node p.launch (not a)) ≡ y)
  ends_next x y (ahead q r) = rw (eq-eqb x (node p.launch a) q) (refl, sym r)
  ends_next x y (back q r) = go (eqb x (node p.launch a)) refl
    where
      go : (d : Bool) → eqb x (node p.launch a) ≡ d
          → (d || eqb x (node p.capture b) ≡ true) × (cond d (node p.capture (not b)) (node p.launch (not a)) ≡ y)
      go true k =
          let z = node-is p.capture p.launch b a (sym q ∙ eqb-true x (node p.launch a) k) in
          (refl, ap (λ (r : ℕ). node r (not b)) z.0 ∙ ap (λ (d : Bool). node p.launch (not d)) z.1 ∙ sym r)
      go false k = (eq-eqb x (node p.capture b) q, sym r)

module _ (t s : ℕ) (ps : List Pair) where
  pub stands-step : (e x : ℕ) → stands t s ps e x ≡ true → Step t s ps e x (next ps e x)
  unfolding stands next
  stands-step e x h =
      let u = and-true (ltb (index_of e) (length ps) && broken_row t s (step_pair ps e) (row_of e)) _ h in
      let v = and-true (ltb (index_of e) (length ps)) (broken_row t s (step_pair ps e) (row_of e)) u.0 in
      record { place = ltb-true _ _ v.0; breaks = v.1; ends = go (eqb x (node (step_pair ps e).launch (launch_late e))) refl u.1 }
    where
      go : (d : Bool) → eqb x (node (step_pair ps e).launch (launch_late e)) ≡ d
          → d || eqb x (node (step_pair ps e).capture (capture_late e)) ≡ true
          → Ends (step_pair ps e) (launch_late e) (capture_late e) x
          (cond d (node (step_pair ps e).capture (not (capture_late e))) (node (step_pair ps e).launch (not (launch_late e))))
      go true q k = ahead (eqb-true _ _ q) refl
      go false q k = back (eqb-true _ _ k) refl
