-- Raising a schedule as far as the rules of a pair ask, but no time past a cap, so that sums stay in 32 bits.
-- Nothing is lost: a rule is attained up to the cap, and where there is a least schedule it stays under the cap
-- (FreeLaws.`least-capped`), so that capped rounds reach it as well.
use mathlib.Core.List.{List}
use mathlib.Core.Path.{◌≡◌, ap, sym, ◌∙◌}
use Prim.Native.Nat.{ℕ, ◌+◌, ◌-◌, ◌≤◌, ◌<◌, max, min}
use native.Mathlib.Nat.{le_refl, le_trans, add-zero}
use native.Mathlib.Omega.{arith}
use lib.ListN.{length, set}
use lib.Seq.{set-get_or}
use Rattle.timing.specs.declared.Pair.{Pair}
use Rattle.timing.specs.Rules.{time, InRange}
use Rattle.free_laws.specs.Constraint.{Constraint, Meets, setup, hold, Below}
use Rattle.free_laws.specs.Raise.{ask, Attained, Capped, raise_to, relax_to}
use Rattle.free_laws.proofs.Sweep.{set_below, attained-more, Obeyed, obeyed}

pub raise-capped : (c r v : ℕ) (x : List ℕ) → Capped c x → Capped c (raise_to c r v x)
raise-capped c r v x h j = set_below x r (min c (max (time x r) v)) j (λ q. c) (h j) (omega arith)

-- raised, or left where it is
module _ (c r v allowance : ℕ) (x : List ℕ) where
  pub raise-more : {w : ℕ} → time x r + allowance < v → w ≡ min c (v - allowance) → set x r w ≡ raise_to c r (v - allowance) x
  raise-more h e = ap (set x r) (omega arith)

  pub raise-none : v ≤ time x r + allowance → Capped c x → x ≡ raise_to c r (v - allowance) x
  raise-none h k =
      let same : time x r ≡ min c (max (time x r) (v - allowance)) = omega (arith, k r) in
      sym (set-get_or x r 0) ∙ ap (set x r) same

-- one raise after the other
pub relax-is : (c t : ℕ) (p : Pair) (x : List ℕ) {y z : List ℕ} → y ≡ raise_to c p.capture (time x p.launch + p.greatest - t) x
    → z ≡ raise_to c p.launch (time y p.capture - p.least) y → z ≡ relax_to c t p x
unfolding relax_to
relax-is c t p x e f = f ∙ ap (λ (y : List ℕ). raise_to c p.launch (time y p.capture - p.least) y) e

-- y is x with both rules of a pair obeyed
pub record Relaxed (c t : ℕ) (p : Pair) (x y : List ℕ) : Type 0 where
  pub size : length y ≡ length x
  pub capped : Capped c y
  pub up : Below x (time y)
  pub low : (f : ℕ → ℕ) → Meets f (setup t p) → Meets f (hold p) → Below x f → Below y f
  pub attained : Attained c x y (setup t p) × Attained c x y (hold p)

abbrev pub obey_to : ℕ → Constraint → List ℕ → List ℕ
obey_to c r x = raise_to c r.dst (ask r x) x

pub obey-to : (c : ℕ) (r : Constraint) (x : List ℕ) → Capped c x → r.dst < length x → Obeyed c r x (obey_to c r x)
obey-to c r x k h = obeyed c r x (min c (max (time x r.dst) (ask r x))) h (omega (arith, k r.dst)) (omega arith) (omega arith)

relax-obey : (c t : ℕ) (p : Pair) (x : List ℕ) → relax_to c t p x ≡ obey_to c (hold p) (obey_to c (setup t p) x)
unfolding relax_to
relax-obey c t p x = rw add-zero

-- setup first, then hold on what setup left; what setup attained, hold takes nothing from
pub relaxed : (c t : ℕ) (p : Pair) (x : List ℕ) → Capped c x → InRange (length x) p → Relaxed c t p x (relax_to c t p x)
relaxed c t p x k h =
    let y : List ℕ = obey_to c (setup t p) x in
    let z : List ℕ = obey_to c (hold p) y in
    let a = obey-to c (setup t p) x k h.capture in
    let capped = raise-capped c p.capture (ask (setup t p) x) x k in
    let b = obey-to c (hold p) y capped (omega (arith, a.size, h.launch)) in
    rw (relax-obey c t p x) (record {
      size = b.size ∙ a.size;
      capped = raise-capped c p.launch (ask (hold p) y) y capped;
      up = λ j. le_trans (a.up j) (b.up j);
      low = λ f m l below. b.low f l (a.low f m below);
      attained = (
        attained-more c x x y z (setup t p) (λ j. le_refl _) b.up a.attained,
        attained-more c x y z z (hold p) a.up (λ j. le_refl _) b.attained,
      );
    })
