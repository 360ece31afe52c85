-- A walk back along rules adds them up; one that comes back to its start bounds the period.
-- Round a cycle the times cancel out: its greatest delays ask for no more than its least delays and a period for each
-- setup step leave. This is the half of Uehara 2009, theorem 5.1.1 (a cycle that asks for too much rules out every
-- schedule), that a certificate needs.
use mathlib.Core.List.{List}
use mathlib.Core.Path.{◌≡◌, ap}
use Prim.Native.Nat.{ℕ, ◌+◌, ◌-◌, ◌*◌, ◌/◌, ◌≤◌, ◌<◌}
use native.Mathlib.Nat.{div-lt_iff_lt-mul}
use native.Mathlib.Omega.{arith}
use Rattle.timing.specs.declared.Pair.{Pair}
use Rattle.timing.specs.Rules.{Each}
use Rattle.free_laws.specs.Constraint.{Meets, setup, hold, constraints, Bound, Adds}

pub adds_none : {ps : List Pair} {start : ℕ} → Adds ps start start 0 0 0
adds_none = record { sums = λ u f m. omega arith }

-- both rules of p are among the rules of ps
abbrev pub Among : List Pair → Pair → Type 0
Among ps p = (u : ℕ) (f : ℕ → ℕ) → Each (Meets f) (constraints u ps) → Meets f (setup u p) × Meets f (hold p)

module _ {ps : List Pair} {start at gain allowance setups : ℕ} (a : Adds ps start at gain allowance setups) (p : Pair) (among : Among ps p) where
  -- back along setup
  pub adds-setup : p.capture ≡ at → Adds ps start p.launch (gain + p.greatest) allowance (setups + 1)
  adds-setup e = record { sums = λ u f m. omega (arith, a.sums u f m, (among u f m).0, ap f e) }

  -- back along hold
  pub adds-hold : p.launch ≡ at → Adds ps start p.capture gain (allowance + p.least) setups
  adds-hold e = record { sums = λ u f m. omega (arith, a.sums u f m, (among u f m).1, ap f e) }

-- back at the start, its time cancels out: no period is shorter than what the sums leave
pub adds-closed : {ps : List Pair} {start at gain allowance setups r : ℕ} → Adds ps start at gain allowance setups
    → ((u : ℕ) → (at ≡ start → gain ≤ allowance + setups * u) → r ≤ u) → Bound ps r
adds-closed a told = record { under = λ u f p m. told u (λ e. omega (arith, a.sums u f m, ap f e)) }

-- the least u with g ≤ s + k * u
pub needed-least : (g s k u : ℕ) → s < g → 0 < k → g ≤ s + k * u → (g - s - 1) / k + 1 ≤ u
needed-least g s k u h p m = omega (arith, (div-lt_iff_lt-mul {k = k} {x = g - s - 1} {y = u} p).1 (omega arith))
