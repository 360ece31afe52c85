-- No schedule beats the free period and the free schedule, with fractional times and times below 0 let in:
-- lifted above 0 and rounded down, a rival is a whole schedule that meets the same rules.
-- Rounding down keeps a rule because what it asks for and what it leaves are whole numbers.
use mathlib.Core.List.{List, [], ◌∷◌}
use mathlib.Core.Path.{◌≡◌, ap}
use Prim.Native.Nat.{ℕ, zero, suc, ◌+◌, ◌-◌, ◌*◌, ◌/◌, ◌≤◌, ◌<◌}
use native.Mathlib.Nat.{le_refl, le-div_iff_mul-le, div-mul-le_self, le_of_mul-le-mul_right, add-mul-div_right, mul-le-mul_right, mul-le-mul_left}
use native.Mathlib.Omega.{arith}
use Rattle.timing.specs.declared.Pair.{Pair}
use Rattle.timing.specs.Rules.{time, Each, InRange}
use Rattle.free_laws.specs.Free.{free_at, free_period}
use Rattle.free_laws.specs.Rival.{Frac, frac_at, AtMost, RivalAdmissible, Proper}
use Rattle.free_laws.specs.Constraint.{Meets, constraints}
use Rattle.free_laws.proofs.ConstraintList.{each-rule}
use Rattle.free_laws.proofs.FreeLaws.{free-is-least, meets→works, period-least}

-- ---- rounding down keeps a rule

-- a rule between the fractions x / d and y / e, that adds whole numbers only, holds between their quotients
floors : (x y d e g h : ℕ) → 0 < d → 0 < e → (x + g * d) * e ≤ (y + h * e) * d → x / d + g ≤ y / e + h
floors x y d e g h pd pe m =
    let q : ℕ = x / d in
    let scaled : (q + g) * e * d ≤ (y + h * e) * d = omega (arith, mul-le-mul_right e (div-mul-le_self x d)) in
    rw (← add-mul-div_right y h pe) ((le-div_iff_mul-le pe).1 (le_of_mul-le-mul_right scaled pd))

-- k more, rounded down
whole : ℕ → Frac → ℕ
whole k f = (f.over + k * f.den - f.under) / f.den

-- k more is not below 0
abbrev Lifts : ℕ → Frac → Type 0
Lifts k f = (0 < f.den) × (f.under ≤ f.over + k * f.den)

whole_meets : (k : ℕ) (a b : Frac) (g h : ℕ) → Lifts k a → Lifts k b → AtMost a g b h → whole k a + g ≤ whole k b + h
unfolding whole
whole_meets k a b g h la lb m =
    let x : ℕ = a.over + k * a.den - a.under in
    let y : ℕ = b.over + k * b.den - b.under in
    let ex : x + a.under ≡ a.over + k * a.den = omega (arith, la.1) in
    let ey : y + b.under ≡ b.over + k * b.den = omega (arith, lb.1) in
    floors x y a.den b.den g h la.0 lb.0
    (scaled x y a.over b.over a.under b.under a.den b.den g h ex ey m)
  where
    scaled : (x y ao bo au bu d e g h : ℕ) → x + au ≡ ao + k * d → y + bu ≡ bo + k * e
        → ao * e + bu * d + g * (d * e) ≤ bo * d + au * e + h * (d * e) → (x + g * d) * e ≤ (y + h * e) * d
    scaled x y ao bo au bu d e g h ex ey m = omega (arith, ap (λ (z : ℕ). z * e) ex, ap (λ (z : ℕ). z * d) ey)

-- ---- what is lifted far enough has no time below 0

depth : List Frac → ℕ
depth [] = 0
depth (f ∷ fs) = f.under + depth fs

lift : (s : List Frac) → Proper s → (k : ℕ) → depth s ≤ k → (r : ℕ) → Lifts k (frac_at s r)
unfolding depth
lift [] p k h r = (omega arith, omega arith)
lift (f ∷ fs) p k h zero = (p.0, omega (arith, mul-le-mul_left k p.0))
lift (f ∷ fs) p k h (suc r) = lift fs p.1 k (omega arith) r

-- a rival schedule at a whole period, lifted by k
module _ (n t : ℕ) (ps : List Pair) (w : Each (InRange n) ps) (s : List Frac) (proper : Proper s) (rival : RivalAdmissible t ps s) where
  lifted : (k : ℕ) → ((r : ℕ) → Lifts k (frac_at s r)) → Each (Meets (λ r. whole k (frac_at s r))) (constraints t ps)
  lifted k lifts =
      each-rule (Meets (λ r. whole k (frac_at s r))) t (λ p m.
      let a = lifts p.launch in
      let b = lifts p.capture in (
        whole_meets k (frac_at s p.launch) (frac_at s p.capture) p.greatest t a b m.setup,
        whole_meets k (frac_at s p.capture) (frac_at s p.launch) 0 p.least b a m.hold,
      )) ps rival

  -- no rival has a shorter period
  pub rival-period : 1 ≤ t → free_period n ps ≤ t
  rival-period h = period-least n ps w t h (meets→works n t ps w _ (lifted (depth s) (lift s proper (depth s) (le_refl _))))

  -- no rival with no time below 0 has a register earlier than the free schedule at its period
  pub rival-schedule : ((r : ℕ) → (frac_at s r).under ≤ (frac_at s r).over) → (r : ℕ)
      → time (free_at n t ps) r * (frac_at s r).den + (frac_at s r).under ≤ (frac_at s r).over
  unfolding whole
  rival-schedule nonneg r =
      let lifts : (q : ℕ) → Lifts 0 (frac_at s q) = λ q. ((lift s proper (depth s) (le_refl _) q).0, omega (arith, nonneg q)) in
      let m = lifted 0 lifts in
      let early = (free-is-least n t ps w (λ q. whole 0 (frac_at s q)) m).below (λ q. whole 0 (frac_at s q)) m r in
      omega (arith, nonneg r, (le-div_iff_mul-le (lifts r).0).0 early)
