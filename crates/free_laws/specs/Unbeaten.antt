-- What is claimed of a free period and a free schedule against every rival.
use Rattle.std.specs.Prelude.{true, List, ◌≡◌, ℕ, ◌+◌, ◌*◌, ◌≤◌, length}
use Rattle.timing.specs.declared.Pair.{Pair}
use Rattle.timing.specs.Rules.{time, admissible}
use Rattle.free_laws.specs.Rival.{Frac, frac_at, Proper, RivalAdmissible}

-- of n registers and the pairs ps: the period `free` and the schedule f
pub record UnbeatenFree (n : ℕ) (ps : List Pair) (free : ℕ) (f : List ℕ) : Type 0 where
  -- a period from 1 up
  pub from_one : 1 ≤ free
  -- a timing for each register
  pub size : length f ≡ n
  -- every rule is met
  pub meets : admissible free ps f ≡ true
  -- no schedule with no timing below 0 has a register earlier
  pub smallest : (s : List Frac) → Proper s → ((r : ℕ) → (frac_at s r).under ≤ (frac_at s r).over) → RivalAdmissible free ps s
      → (r : ℕ) → time f r * (frac_at s r).den + (frac_at s r).under ≤ (frac_at s r).over
  -- no schedule, timings below 0 let in, has a shorter period
  pub shortest : (t : ℕ) (s : List Frac) → 1 ≤ t → Proper s → RivalAdmissible t ps s → free ≤ t
