-- The free period and the free schedule are unbeaten: by n rounds at the free period the schedule meets every rule
-- (FreeLaws), and a rival, with fractions or below 0, is brought to whole times before it is compared (RivalLaws).
use mathlib.Core.List.{List}
use Prim.Native.Nat.{ℕ}
use Rattle.timing.specs.declared.Pair.{Pair}
use Rattle.timing.specs.Rules.{Each, InRange}
use Rattle.free_laws.specs.Free.{free_works, free_period, free_schedule}
use Rattle.free_laws.specs.Unbeaten.{UnbeatenFree}
use Rattle.free_laws.proofs.FreeLaws.{length-free, period-works, period-pos}
use Rattle.free_laws.proofs.RivalLaws.{rival-period, rival-schedule}

pub free-unbeaten : (n : ℕ) (ps : List Pair) → Each (InRange n) ps → UnbeatenFree n ps (free_period n ps) (free_schedule n ps)
unfolding free_schedule free_works
free-unbeaten n ps w =
    let t : ℕ = free_period n ps in
    record {
      from_one = period-pos n ps w;
      size = length-free n t ps w;
      meets = period-works n ps w;
      smallest = λ s proper nonneg m r. rival-schedule n t ps w s proper m nonneg r;
      shortest = λ u s h proper m. rival-period n u ps w s proper m h;
    }
