-- Steps and chains of steps.
-- A step that stands at a node is a fact (`Step`) from which it can be used both ways: what leads from x to y leads from the opposite of y
-- to the opposite of x (`step_back`). Steps one after the other make a chain (`leads-step`, `leads-then`).
use mathlib.Core.Bool.{Bool, true, false, not, ◌&&◌}
use mathlib.Core.List.{List, [], ◌∷◌, ◌++◌}
use mathlib.Core.Path.{◌≡◌, refl, ap, ◌∙◌}
use Prim.Native.Nat.{ℕ}
use lib.Dec.{ltb}
use lib.ListN.{length}
use borrow.Author.Tests.{lt-ltb, eqb-true, eq-eqb}
use Rattle.timing.specs.declared.Pair.{Pair}
use Rattle.timing.proofs.RuleLaws.{and-true}
use Rattle.split_laws.specs.Choices.{broken_row}
pub use Rattle.chain_laws.proofs.StepLaws.{node-is, Ends, ahead, back, Step, stands-step}
use Rattle.chain_laws.proofs.StepLaws.{not-not, ends_next}
use Rattle.chain_laws.specs.Chains.{node, index_of, row_of, step_pair, launch_late, capture_late, stands, next, leads}

-- ---- tests

true-and : (a b : Bool) → a ≡ true → b ≡ true → a && b ≡ true
true-and true b e f = f
true-and false b e f = e

module _ (t s : ℕ) (ps : List Pair) where
  step-stands : (e x y : ℕ) → Step t s ps e x y → (stands t s ps e x ≡ true) × (next ps e x ≡ y)
  unfolding stands next
  step-stands e x y h =
      let n = ends_next (step_pair ps e) (launch_late e) (capture_late e) x y h.ends in (
        true-and (ltb (index_of e) (length ps) && broken_row t s (step_pair ps e) (row_of e)) _
            (true-and (ltb (index_of e) (length ps)) _ (lt-ltb _ _ h.place) h.breaks) n.0,
        n.1,
      )

  -- the same step between the opposite choices
  pub step_back : (e r q : ℕ) (a b : Bool) → Step t s ps e (node r a) (node q b) → Step t s ps e (node q (not b)) (node r (not a))
  step_back e r q a b h = record { place = h.place; breaks = h.breaks; ends = go h.ends }
    where
      go : Ends (step_pair ps e) (launch_late e) (capture_late e) (node r a) (node q b)
          → Ends (step_pair ps e) (launch_late e) (capture_late e) (node q (not b)) (node r (not a))
      go (ahead x y) =
          let u = node-is r (step_pair ps e).launch a (launch_late e) x in
          let v = node-is q (step_pair ps e).capture b (not (capture_late e)) y in
          back
          (ap (λ (z : ℕ). node z (not b)) v.0 ∙ ap (λ (z : Bool). node (step_pair ps e).capture (not z)) v.1
          ∙ ap (node (step_pair ps e).capture) (not-not (capture_late e)))
          (ap (λ (z : ℕ). node z (not a)) u.0 ∙ ap (λ (z : Bool). node (step_pair ps e).launch (not z)) u.1)
      go (back x y) =
          let u = node-is r (step_pair ps e).capture a (capture_late e) x in
          let v = node-is q (step_pair ps e).launch b (not (launch_late e)) y in
          ahead
          (ap (λ (z : ℕ). node z (not b)) v.0 ∙ ap (λ (z : Bool). node (step_pair ps e).launch (not z)) v.1
          ∙ ap (node (step_pair ps e).launch) (not-not (launch_late e)))
          (ap (λ (z : ℕ). node z (not a)) u.0 ∙ ap (λ (z : Bool). node (step_pair ps e).capture (not z)) u.1)

  -- ---- chains

  pub leads-none : (x : ℕ) → leads t s ps [] x x ≡ true
  unfolding leads
  leads-none x = eq-eqb x x refl

  pub leads-step : (e x z y : ℕ) (es : List ℕ) → Step t s ps e x z → leads t s ps es z y ≡ true → leads t s ps (e ∷ es) x y ≡ true
  unfolding leads
  leads-step e x z y es h l =
      let b = step-stands e x z h in
      true-and (stands t s ps e x) _ b.0 (rw b.1 l)

  pub leads-then : (es fs : List ℕ) (x z y : ℕ) → leads t s ps es x z ≡ true → leads t s ps fs z y ≡ true → leads t s ps (es ++ fs) x y ≡ true
  unfolding leads
  leads-then [] fs x z y h k =
      let q : x ≡ z = eqb-true x z h in
      rw q k
  leads-then (e ∷ es) fs x z y h k =
      let u = and-true (stands t s ps e x) (leads t s ps es (next ps e x) z) h in
      true-and (stands t s ps e x) _ u.0 (leads-then es fs (next ps e x) z y u.1 k)
