-- A trail, step by step: each step back adds one rule of the list to the sums, which bound the times at its two ends (`Adds`).
-- A step adds at most a longest period to what is asked for and to what is left, so n steps keep both in 32 bits.
use Prim.Native.Nat.{ℕ, ◌+◌, ◌<◌}
use mathlib.Core.List.{List}
use mathlib.Core.Path.{◌≡◌, refl}
use native.Mathlib.Omega.{arith}
use Rattle.timing.specs.declared.Pair.{Pair}
use Rattle.timing.specs.Limits.{max_registers}
use Rattle.list_format.specs.Lists.{registers, PairIn, IsPair, UsableList}
use Rattle.list_format.proofs.ListLaws.{few-registers, pair-in}
use Rattle.free_laws.proofs.Cycle.{adds_none, adds-setup, adds-hold}
use Rattle.free_rounds.proofs.RoundLaws.{rules-at}
use Rattle.free_cycles.specs.declared.Trail.{Trail}
use Rattle.free_cycles.specs.Tracing.{Traced, Further}

-- a trail of no steps
pub trail-start : {ws : List ℕ} {n at : ℕ} {w : Trail} → at < registers ws
    → (w.start ≡ at) × (w.at ≡ at) × (w.steps ≡ 0) × (w.gain ≡ 0) × (w.allowance ≡ 0) × (w.setups ≡ 0) → Traced ws n w
trail-start h (s, a, k, g, l, u) =
    record {
      inside = omega arith;
      most = omega arith;
      setups = omega arith;
      gain = omega arith;
      allowance = omega arith;
      adds = rw (a, s, g, l, u) adds_none;
    }

module _ {ws : List ℕ} {count n : ℕ} {w : Trail} (r : UsableList ws n count) (s : Traced ws n w) (more : w.steps < n) where
  -- a register has a place among the parents
  pub at-parent : w.at < max_registers
  at-parent = omega (arith, few-registers ws r, s.inside, r.registers_are)

  pub at_pair : {k : ℕ} → k < count → PairIn ws k
  at_pair h = pair-in ws r h

  module _ {k : ℕ} {p : Pair} (is : IsPair ws k p) (h : k < count) where
    pub back-setup : p.capture ≡ w.at
        → Further ws n w (record {
          start = w.start;
          at = p.launch;
          steps = w.steps + 1;
          gain = w.gain + p.greatest;
          allowance = w.allowance;
          setups = w.setups + 1;
        })
    back-setup e =
        record {
          start = refl;
          on = omega arith;
          traced = record {
            inside = is.values.launch;
            most = omega arith;
            setups = omega (arith, s.setups);
            gain = omega (arith, s.gain, is.values.limit);
            allowance = omega (arith, s.allowance);
            adds = adds-setup s.adds p (rules-at is (at_pair h).below) e;
          };
        }

    pub back-hold : p.launch ≡ w.at
        → Further ws n w (record {
          start = w.start;
          at = p.capture;
          steps = w.steps + 1;
          gain = w.gain;
          allowance = w.allowance + p.least;
          setups = w.setups;
        })
    back-hold e =
        record {
          start = refl;
          on = omega arith;
          traced = record {
            inside = is.values.capture;
            most = omega arith;
            setups = omega (arith, s.setups);
            gain = s.gain;
            allowance = omega (arith, s.allowance, is.values.order, is.values.limit);
            adds = adds-hold s.adds p (rules-at is (at_pair h).below) e;
          };
        }
