-- Reaches that rise no further give the two-timing period and its split: with top at the common period, the period that
-- they give is the least from 1 up at which a split works (`two-is-least`), and the least is unique.
use mathlib.Core.Path.{◌≡◌, ap, sym}
use mathlib.Core.List.{List}
use Prim.Native.Nat.{ℕ, ◌-◌, ◌≤◌}
use native.Mathlib.Nat.{le_refl}
use native.Mathlib.Omega.{arith}
use lib.ListN.{length}
use Rattle.timing.specs.declared.Pair.{Pair}
use Rattle.timing.specs.Rules.{Each}
use Rattle.search.proofs.SearchLaws.{least-is}
use Rattle.free_laws.specs.Free.{common}
use Rattle.free_laws.proofs.FreeLaws.{common-pos}
use Rattle.split_laws.specs.Split.{timings}
use Rattle.plan_laws.specs.Plan.{two_works, two_period, two_offset, two_split, timings_of, two_timings}
use Rattle.plan_laws.specs.Reach.{Reaches, ReachClosed, reach_period, late_above}
use Rattle.plan_laws.proofs.OffsetLaws.{below-common}
use Rattle.plan_laws.proofs.TwoLaws.{two-common}
use Rattle.plan_laws.proofs.ReachLaws.{late-first, two-is-least}

module _ (n : ℕ) (ps : List Pair) (W : List ℕ) (size : length W ≡ n) (s : Reaches (common ps) ps W) (closed : Each (ReachClosed (common ps) W) ps) where
  pub period-is : reach_period 1 ps W ≡ two_period n ps
  unfolding two_period two_works
  period-is =
      sym (least-is (two_works n ps) 1 (common ps) (reach_period 1 ps W)
      (two-is-least n 1 (common ps) ps W size (common-pos ps) (below-common ps (common ps) (le_refl _)) s closed))

  pub timings-are : two_timings n ps ≡ timings (two_offset n ps) (late_above (two_period n ps) W)
  unfolding two_timings two_split two_offset
  timings-are =
      let upto : reach_period 1 ps W ≤ two_period n ps = omega (arith, period-is) in
      ap (timings_of (common ps - two_period n ps))
      (late-first n 1 (common ps) ps W size (common-pos ps) (below-common ps (common ps) (le_refl _)) s closed (two_period n ps) upto (two-common n ps))
