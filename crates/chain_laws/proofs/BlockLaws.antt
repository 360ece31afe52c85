-- Two chains that block a period: no split works there, whatever its offset.
-- A split that works follows every step (`follows`), so along the first chain a register that is early is late, and along the second a
-- register that is late is early.
use mathlib.Core.Bool.{Bool, true, false, not, false≢true}
use mathlib.Core.List.{List, [], ◌∷◌}
use mathlib.Core.Path.{◌≡◌, refl, ap, sym, ◌∙◌, subst}
use Prim.Native.Nat.{ℕ, zero, suc, ◌-◌, ◌/◌, ◌≤◌, ◌<◌}
use native.Mathlib.Omega.{arith}
use lib.ListN.{length, get_or}
use borrow.Author.Tests.{eqb-true}
use Rattle.timing.specs.declared.Pair.{Pair}
use Rattle.timing.specs.Rules.{Each}
use Rattle.timing.proofs.RuleLaws.{and-true}
use Rattle.free_laws.specs.Free.{common}
use Rattle.split_laws.specs.Split.{works, broken, split_works}
use Rattle.split_laws.specs.Marks.{keeps}
use Rattle.split_laws.proofs.ClosureLaws.{works-each}
use Rattle.split_laws.proofs.FoundLaws.{split-there}
use Rattle.plan_laws.specs.Plan.{two_works}
use Rattle.plan_laws.specs.Unbeaten.{RivalSplit}
use Rattle.plan_laws.proofs.TwoLaws.{rival-there}
use Rattle.chain_laws.specs.Chains.{node, index_of, step_pair, launch_late, capture_late, stands, next, leads, Chains, Blocks}
use Rattle.chain_laws.proofs.ChainLaws.{Ends, ahead, back, stands-step, node-is}

-- the split has the node's choice at its register
abbrev Has : List Bool → ℕ → Type 0
Has c x = x ≡ node (x / 2) (get_or c (x / 2) false)

half : (r : ℕ) (b : Bool) → node r b / 2 ≡ r
half r true = omega arith
half r false = omega arith

has-is : (c : List Bool) (r : ℕ) (b : Bool) → Has c (node r b) → get_or c r false ≡ b
has-is c r b h = sym (node-is r r b (get_or c r false) (rw (half r b) at h)).1

is-has : (c : List Bool) (r : ℕ) (b : Bool) → get_or c r false ≡ b → Has c (node r b)
is-has c r b e = rw (half r b, e)

other : (a b : Bool) → (a ≡ b → ⊥) → a ≡ not b
other true true h = absurd (h refl)
other true false h = refl
other false true h = refl
other false false h = absurd (h refl)

each_at : (P : Pair → Type 0) (ps : List Pair) (d : Pair) → Each P ps → (k : ℕ) → k < length ps → P (get_or ps k d)
each_at P [] d e k h = absurd (omega arith)
each_at P (p ∷ ps) d e zero h = e.0
each_at P (p ∷ ps) d e (suc k) h = each_at P ps d e.1 k (omega arith)

module _ (t s : ℕ) (ps : List Pair) (c : List Bool) (w : works t s ps c ≡ true) where
  -- where the choice a, b breaks a rule, the split does not make it
  follows-ends : (p : Pair) (a b : Bool) (x y : ℕ) → keeps t s p c ≡ true → broken t s p a b ≡ true → Ends p a b x y → Has c x → Has c y
  follows-ends p a b x y k br (ahead q r) h =
      let ca : get_or c p.launch false ≡ a = has-is c p.launch a (subst (Has c) q h) in
      let cb : get_or c p.capture false ≡ not b = other _ b (λ g. false≢true (sym (ap not (rw (ca, g) at k)) ∙ br)) in
      subst (Has c) (sym r) (is-has c p.capture (not b) cb)
  follows-ends p a b x y k br (back q r) h =
      let cb : get_or c p.capture false ≡ b = has-is c p.capture b (subst (Has c) q h) in
      let ca : get_or c p.launch false ≡ not a = other _ a (λ g. false≢true (sym (ap not (rw (g, cb) at k)) ∙ br)) in
      subst (Has c) (sym r) (is-has c p.launch (not a) ca)

  follows : (es : List ℕ) (x y : ℕ) → leads t s ps es x y ≡ true → Has c x → Has c y
  unfolding leads
  follows [] x y e h = subst (Has c) (eqb-true x y e) h
  follows (e ∷ es) x y l h =
      let u = and-true (stands t s ps e x) (leads t s ps es (next ps e x) y) l in
      let st = stands-step t s ps e x u.0 in
      follows es (next ps e x) y u.1
      (follows-ends (step_pair ps e) (launch_late e) (capture_late e) x (next ps e x)
      (each_at (λ p. keeps t s p c ≡ true) ps _ (works-each t s c ps w) (index_of e) st.place) st.breaks st.ends h)

module _ (n t s : ℕ) (ps : List Pair) (x : Chains) (b : Blocks n t s ps x) where
  -- no split works
  pub blocks-each : (c : List Bool) → works t s ps c ≡ true → ⊥
  blocks-each c w = go (get_or c x.register false) refl
    where
      r : ℕ
      r = x.register

      go : (v : Bool) → get_or c x.register false ≡ v → ⊥
      go true h = false≢true (sym (has-is c r false (follows t s ps c w x.second (node r true) (node r false) b.second (is-has c r true h))) ∙ h)
      go false h = false≢true (sym h ∙ has-is c r true (follows t s ps c w x.first (node r false) (node r true) b.first (is-has c r false h)))

  pub blocks-none : split_works n t s ps ≡ false
  blocks-none = go (split_works n t s ps) refl
    where
      go : (d : Bool) → split_works n t s ps ≡ d → d ≡ false
      go false e = refl
      go true e = let k = split-there n t s ps e in absurd (blocks-each k.split k.works)

-- at the offset that brings the period up to the common one: no split works with any offset, whole or fractional
module _ (n t : ℕ) (ps : List Pair) (x : Chains) (b : Blocks n t (common ps - t) ps x) where
  pub blocks-two : two_works n ps t ≡ false
  unfolding two_works
  blocks-two = blocks-none n t (common ps - t) ps x b

  pub blocks-rival : 1 ≤ t → (p q : ℕ) (c : List Bool) → RivalSplit n ps t p q c → ⊥
  blocks-rival pos p q c v = false≢true (sym blocks-two ∙ rival-there n ps t p q c pos v)
