-- Steps that raise reaches: one raise, the two raises of a pair, and steps one after the other.
-- A step that moves nothing has brought about what it was to; any other leaves less to rise (`room` falls), so sweeps end.
use mathlib.Core.Path.{◌≡◌, refl, ◌∙◌, subst, subst⁻¹}
use mathlib.Core.Bool.{Bool, true, false, ◌||◌}
use mathlib.Core.List.{List, [], ◌∷◌}
use Prim.Native.Nat.{ℕ, zero, suc, ◌≤◌, ◌<◌}
use native.Mathlib.Nat.{not-suc-le-zero, le_of_suc-le-suc}
use native.Mathlib.Decide.{ℕ_discrete}
use native.Mathlib.Omega.{arith}
use lib.ListN.{length, set, length-set}
use lib.Seq.{get_or-set_same, get_or-set_other}
use Rattle.timing.specs.declared.Pair.{Pair}
use Rattle.timing.specs.Rules.{InRange}
use Rattle.plan_laws.specs.Reach.{reach_of, Forces, Reaches, ahead, behind, ReachClosed, NoneBelow, Rose, Raised, room, ReachTold, ReachStep}
use Rattle.plan_laws.proofs.ReachLaws.{PairOf, ahead-under, behind-under, ahead-forces, behind-forces}

room-set : (top : ℕ) (W : List ℕ) (r v : ℕ) → r < length W → reach_of W r < v → v ≤ top → room top (set W r v) < room top W
room-set top [] r v l h k = absurd (not-suc-le-zero l)
room-set top (x ∷ W) zero v l h k = omega arith
room-set top (x ∷ W) (suc r) v l h k = omega (arith, room-set top W r v (le_of_suc-le-suc l) h k)

told-then : (top : ℕ) (D E : List ℕ → Type 0) (W M W' : List ℕ) (o o' : Bool) → ReachTold o top D W M → ReachTold o' top E M W'
    → ReachTold (o || o') top (λ X. D X × E X) W W'
told-then top D E W M W' false false h k = (k.0 ∙ h.0, (h.1, subst E h.0 k.1))
told-then top D E W M W' false true h k = subst (λ (X : List ℕ). room top W' < room top X) h.0 k
told-then top D E W M W' true false h k = subst⁻¹ (λ (X : List ℕ). room top X < room top W) k.0 h
told-then top D E W M W' true true h k = omega arith

module _ {top : ℕ} {ps : List Pair} where
  -- ---- steps one after the other

  pub step-none : {D : List ℕ → Type 0} {W : List ℕ} → Reaches top ps W → D W → ReachStep top ps D W W false
  step-none s d = record { size = refl; reaches = s; told = (refl, d) }

  pub step_then : {D E : List ℕ → Type 0} {W M W' : List ℕ} {o o' o'' : Bool} → o'' ≡ (o || o') → ReachStep top ps D W M o
      → ReachStep top ps E M W' o' → ReachStep top ps (λ X. D X × E X) W W' o''
  step_then {D} {E} {W} {M} {W'} {o} {o'} e h k =
      rw e (record { size = k.size ∙ h.size; reaches = k.reaches; told = told-then top D E W M W' o o' h.told k.told })

  -- a step, read as bringing about less
  pub step-with : {D E : List ℕ → Type 0} {W W' : List ℕ} {o : Bool} → (D W → E W) → ReachStep top ps D W W' o → ReachStep top ps E W W' o
  step-with {D} {E} {W} {W'} {o} d h = record { size = h.size; reaches = h.reaches; told = go o h.told }
    where
      go : (o : Bool) → ReachTold o top D W W' → ReachTold o top E W W'
      go false x = (x.0, d x.1)
      go true x = x

  -- ---- one raise, to what is forced

  reaches-set : (W : List ℕ) (r v : ℕ) → Reaches top ps W → r < length W → v ≤ top → Forces top ps r v → Reaches top ps (set W r v)
  reaches-set W r v s l h f = record { under = λ j. under j (ℕ_discrete j r); late = λ j. late j (ℕ_discrete j r) }
    where
      under : (j : ℕ) → Dec (j ≡ r) → reach_of (set W r v) j ≤ top
      under j (yes e) = rw (e, get_or-set_same W r v 0 l) h
      under j (no e) = rw (get_or-set_other W r j v 0 e) (s.under j)

      late : (j : ℕ) → Dec (j ≡ r) → Forces top ps j (reach_of (set W r v) j)
      late j (yes e) = rw (e, get_or-set_same W r v 0 l) f
      late j (no e) = rw (get_or-set_other W r j v 0 e) (s.late j)

  step-raise : (W : List ℕ) (r v : ℕ) (o : Bool) (W' : List ℕ) → Reaches top ps W → r < length W → v ≤ top → Forces top ps r v
      → Rose o r v W W' → ReachStep top ps (λ X. v ≤ reach_of X r) W W' o
  step-raise W r v false W' s l h f x = rw x.0 (step-none s x.1)
  step-raise W r v true W' s l h f x =
      rw x.0 (record { size = length-set W r v; reaches = reaches-set W r v s l h f; told = room-set top W r v l x.1 h })

  -- where no split works below v, each register may be raised to it
  pub step-lift : {v : ℕ} → NoneBelow top ps v → {W W' : List ℕ} {r : ℕ} {x : Bool} → r < length W → Reaches top ps W
      → Raised r v W W' x → ReachStep top ps (λ X. v ≤ reach_of X r) W W' x
  step-lift {v} n {W} {W'} {r} {x} l s a = step-raise W r v x W' s l n.under (λ t h c w. absurd (n.none t h c w)) a.rose

  -- ---- a pair: its capture is raised, its launch, or one and then the other

  module _ {p : Pair} (of : PairOf top ps p) where
    pub step-ahead : {W W' : List ℕ} → InRange (length W) p → Reaches top ps W → {x : Bool} → Raised p.capture (ahead top p W) W W' x
        → ReachStep top ps (λ X. ahead top p W ≤ reach_of X p.capture) W W' x
    step-ahead {W} {W'} inside s {x} a =
        step-raise W p.capture (ahead top p W) x W' s inside.capture (ahead-under top ps W s p of) (ahead-forces top ps W s p of) a.rose

    pub step-behind : {W W' : List ℕ} → InRange (length W) p → Reaches top ps W → {x : Bool} → Raised p.launch (behind top p W) W W' x
        → ReachStep top ps (λ X. behind top p W ≤ reach_of X p.launch) W W' x
    step-behind {W} {W'} inside s {x} a =
        step-raise W p.launch (behind top p W) x W' s inside.launch (behind-under top ps W s p of) (behind-forces top ps W s p of) a.rose

    -- both raises are to what is forced, so the reaches stay reaches; where neither moved, the pair is closed
    pub pair_step : {W M W' : List ℕ} → InRange (length W) p → Reaches top ps W → {x y o : Bool}
        → Raised p.capture (ahead top p W) W M x → Raised p.launch (behind top p M) M W' y → o ≡ (x || y)
        → ReachStep top ps (λ X. ReachClosed top X p) W W' o
    pair_step {W} {M} {W'} inside s {x} {y} a b e =
        let one = step-ahead inside s a in
        let there : InRange (length M) p = record { launch = rw one.size inside.launch; capture = rw one.size inside.capture } in
        rw e (both x a.rose (step_then refl one (step-behind there one.reaches b)))
      where
        both : (x : Bool) → Rose x p.capture (ahead top p W) W M
            → ReachStep top ps (λ X. (ahead top p W ≤ reach_of X p.capture) × (behind top p M ≤ reach_of X p.launch)) W W' (x || y)
            → ReachStep top ps (λ X. ReachClosed top X p) W W' (x || y)
        both false r h =
            step-with (λ d. record { capture = d.0; launch = subst (λ (X : List ℕ). behind top p X ≤ reach_of W p.launch) r.0 d.1 }) h
        both true r h = record { size = h.size; reaches = h.reaches; told = h.told }
