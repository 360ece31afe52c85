-- The plan is unbeaten: its split is the first that works, no rival split has a shorter period or a smaller offset
-- (TwoLaws, by Kohira and Takahashi 2012, theorem 1, for fractions), and its free part is `free-unbeaten`.
use mathlib.Core.List.{List}
use mathlib.Core.Path.{◌≡◌, ap, ◌∙◌}
use Prim.Native.Nat.{ℕ}
use lib.ListN.{length-map}
use Rattle.timing.specs.declared.Pair.{Pair}
use Rattle.timing.specs.Rules.{Each, InRange}
use Rattle.free_laws.specs.Free.{common, free_period, free_schedule}
use Rattle.free_laws.proofs.UnbeatenLaws.{free-unbeaten}
use Rattle.split_laws.specs.Split.{time_of, timings, works}
use Rattle.plan_laws.specs.Plan.{two_period, two_offset, two_split, timings_of, two_timings}
use Rattle.plan_laws.specs.Unbeaten.{UnbeatenTwo, Unbeaten}
use Rattle.plan_laws.proofs.TwoLaws.{two_pos, two-common, two-split, two-best, free-two}

module _ (n : ℕ) (ps : List Pair) where
  shown : two_timings n ps ≡ timings (two_offset n ps) (two-split n ps).split
  unfolding two_timings two_split
  shown = ap (timings_of (two_offset n ps)) (two-split n ps).first

  pub two-unbeaten : UnbeatenTwo n ps (two_period n ps) (two_offset n ps) (two_timings n ps)
  unfolding works
  two-unbeaten =
      let x = two-split n ps in
      record {
        from_one = two_pos n ps;
        size = rw shown (length-map x.split (time_of (two_offset n ps)) ∙ x.size);
        meets = rw shown x.works;
        split = x.split;
        first = x.first;
        shown = shown;
        best = two-best n ps;
      }

  pub plan-unbeaten : Each (InRange n) ps
      → Unbeaten n ps (common ps) (free_period n ps) (two_period n ps) (two_offset n ps) (free_schedule n ps) (two_timings n ps)
  plan-unbeaten w =
      record { freely = free-unbeaten n ps w; split = two-unbeaten; free_first = free-two n ps w; common_last = two-common n ps }
