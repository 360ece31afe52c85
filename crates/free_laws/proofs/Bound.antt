-- Lower bounds of the free period: periods below which no times meet the rules.
-- A climb from bound to bound that comes to one with a least schedule has found the free period.
use mathlib.Core.List.{List}
use mathlib.Core.Logic.{◌⊎◌, inl, inr}
use mathlib.Core.Path.{◌≡◌, ap, sym, ◌∙◌}
use Prim.Native.Nat.{ℕ, ◌+◌, ◌≤◌, ◌<◌, max}
use native.Mathlib.Nat.{eq-or-lt_of_le}
use native.Mathlib.Omega.{arith}
use Rattle.timing.specs.declared.Pair.{Pair}
use Rattle.timing.specs.Rules.{time, Each, InRange}
use Rattle.buffers.specs.Over.{zeros}
use Rattle.free_laws.specs.Free.{free_at, common, free_period, free_schedule}
use Rattle.free_laws.specs.Constraint.{Meets, constraints, Least, Bound}
use Rattle.free_laws.proofs.Least.{least-unique}
use Rattle.free_laws.proofs.FreeLaws.{free-is-least, works→meets, meets→works, common-pos, common-meets, period-works, period-least, period-pos}

pub bound-low : {ps : List Pair} {b : ℕ} → b ≤ 1 → Bound ps b
bound-low h = record { under = λ u f p m. omega arith }

pub bound-max : {ps : List Pair} {a b : ℕ} → Bound ps a → Bound ps b → Bound ps (max a b)
bound-max a b = record { under = λ u f p m. omega (arith, a.under u f p m, b.under u f p m) }

-- none is above the common period: there all zero does
pub bound-common : {ps : List Pair} {b : ℕ} → Bound ps b → b ≤ common ps
bound-common {ps} b = b.under (common ps) (time (zeros 0)) (common-pos ps) (common-meets 0 ps)

-- the free period is one
pub bound-free : (n : ℕ) (ps : List Pair) → Each (InRange n) ps → Bound ps (free_period n ps)
bound-free n ps w = record { under = λ u f p m. period-least n ps w u p (meets→works n u ps w f m) }

-- where there is no schedule at the bound itself, one more is a bound
pub bound-next : {ps : List Pair} {b : ℕ} → Bound ps b → ((f : ℕ → ℕ) → Each (Meets f) (constraints b ps) → ⊥) → Bound ps (b + 1)
bound-next {ps} {b} h none = record { under = λ u f p m. go u f m (eq-or-lt_of_le (h.under u f p m)) }
  where
    go : (u : ℕ) (f : ℕ → ℕ) → Each (Meets f) (constraints u ps) → (b ≡ u) ⊎ (b < u) → b + 1 ≤ u
    go u f m (inl e) = absurd (none f (rw (sym e) at m))
    go u f m (inr l) = omega arith

-- a bound at which there is a least schedule is the free period
module _ (n : ℕ) (ps : List Pair) (w : Each (InRange n) ps) {t : ℕ} {x : List ℕ} (h : 1 ≤ t) (b : Bound ps t)
    (least : Least (constraints t ps) n x) where
  pub bound-period : t ≡ free_period n ps
  bound-period =
      omega (
        arith,
        period-least n ps w t h (meets→works n t ps w (time x) least.meets),
        b.under (free_period n ps) (time (free_at n (free_period n ps) ps)) (period-pos n ps w) (works→meets n (free_period n ps) ps (period-works n ps w)),
      )

  pub bound-schedule : x ≡ free_schedule n ps
  unfolding free_schedule
  bound-schedule =
      least-unique least (free-is-least n t ps w (time x) least.meets) ∙ ap (λ (u : ℕ). free_at n u ps) bound-period
