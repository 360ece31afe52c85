-- The climb: what a pair alone asks of the period, and what the climb comes to.
use Rattle.std.specs.Prelude.{ℕ, ◌+◌, ◌≤◌, List, ◌≡◌}
use Rattle.timing.specs.declared.Pair.{Pair}
use Rattle.list_format.specs.Lists.{registers, pairs}
use Rattle.free_laws.specs.Free.{free_period, free_schedule}
use Rattle.free_laws.specs.Constraint.{Bound}
use Rattle.free_climb.specs.declared.Ascent.{Ascent}
use Rattle.free_climb.specs.declared.Ascent.TheVariants.{Done, Onward, Undecided}

-- r is no more than any period at which the pair alone can meet its rules, with launch time a and capture time b
pub record Alone (p : Pair) (r : ℕ) : Type 0 where
  pub under : (u a b : ℕ) → (p.launch ≡ p.capture → a ≡ b) → a + p.greatest ≤ b + u → b ≤ a + p.least → r ≤ u

-- the free period, with the free schedule
pub record Climbed (ws : List ℕ) (x : List ℕ) (r : ℕ) : Type 0 where
  pub period : r ≡ free_period (registers ws) (pairs ws)
  pub schedule : x ≡ free_schedule (registers ws) (pairs ws)

-- what trials come to
pub record Ascended (ws : List ℕ) (x : List ℕ) (r : Ascent) : Type 0 where
  pub settled : (t : ℕ) → r ≡ Done t → Climbed ws x t
  pub onward : (t : ℕ) → r ≡ Onward t → (1 ≤ t) × Bound (pairs ws) t
  pub undecided : (t : ℕ) → r ≡ Undecided t → (1 ≤ t) × Bound (pairs ws) t
