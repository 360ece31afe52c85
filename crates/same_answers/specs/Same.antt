-- Two lists of pairs with the same answers.
use Rattle.std.specs.Prelude.{Bool, List, ◌≡◌, ℕ}
use Rattle.timing.specs.declared.Pair.{Pair}
use Rattle.timing.specs.Rules.{admissible}
use Rattle.free_laws.specs.Free.{common, free_period, free_schedule}
use Rattle.free_laws.specs.Rival.{Frac, RivalAdmissible}
use Rattle.split_laws.specs.Split.{first_split}
use Rattle.plan_laws.specs.Plan.{two_period, two_offset, two_split, two_timings}
use Rattle.plan_laws.specs.Unbeaten.{WorksOver}

-- of n registers: the pairs qs ask for the same as the pairs ps, and every answer is the same
pub record SameAnswers (n : ℕ) (ps qs : List Pair) : Type 0 where
  -- at every period the same schedules are admissible
  pub schedules : (t : ℕ) (s : List ℕ) → admissible t qs s ≡ admissible t ps s
  -- with fractions and times below 0 too
  pub rivals : (t : ℕ) (s : List Frac) → (RivalAdmissible t ps s → RivalAdmissible t qs s) × (RivalAdmissible t qs s → RivalAdmissible t ps s)
  -- the same splits work, at every period t / u and offset s / u
  pub works : (u t s : ℕ) (c : List Bool) → (WorksOver u t s c ps → WorksOver u t s c qs) × (WorksOver u t s c qs → WorksOver u t s c ps)
  -- the same periods, schedules, offsets and splits
  pub common_is : common qs ≡ common ps
  pub free_is : free_period n qs ≡ free_period n ps
  pub schedule_is : free_schedule n qs ≡ free_schedule n ps
  pub first_is : (t s : ℕ) → first_split n t s qs ≡ first_split n t s ps
  pub two_is : two_period n qs ≡ two_period n ps
  pub offset_is : two_offset n qs ≡ two_offset n ps
  pub split_is : two_split n qs ≡ two_split n ps
  pub timings_is : two_timings n qs ≡ two_timings n ps
