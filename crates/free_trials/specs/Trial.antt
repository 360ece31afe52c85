-- A trial of a period: what it asks for and what it tells.
use Rattle.std.specs.Prelude.{ℕ, ◌≤◌, true, List, ◌≡◌, length, Option, IfSome}
use Rattle.timing.specs.Rules.{admissible}
use Rattle.timing.specs.Limits.{max_timing}
use Rattle.list_format.specs.Lists.{registers, pairs, UsableList}
use Rattle.free_laws.specs.Constraint.{constraints, Least, Bound}
use Rattle.free_laws.specs.Raise.{Capped}
use Rattle.free_laws.proofs.Rounds.{Rounds}

-- a usable list with places for a schedule, and no schedule at a period shorter than t
pub record Trial (ws : List ℕ) (count t : ℕ) (x : List ℕ) : Type 0 where
  pub list : UsableList ws (length x) count
  pub pos : 1 ≤ t
  pub bound : Bound (pairs ws) t

-- told after a round at t: t itself only of an admissible schedule, else a longer period
pub record Judged (ws : List ℕ) (t : ℕ) (x : List ℕ) (r : ℕ) : Type 0 where
  pub onward : t ≤ r
  pub bound : Bound (pairs ws) r
  pub shows : r ≡ t → admissible t (pairs ws) x ≡ true

-- told after a trial of t, with the schedule that it leaves: t itself only with the least schedule, else a longer period
pub record Tried (ws : List ℕ) (t : ℕ) (x : List ℕ) (r : ℕ) : Type 0 where
  pub onward : t ≤ r
  pub bound : Bound (pairs ws) r
  pub shows : r ≡ t → Least (constraints t (pairs ws)) (registers ws) x

-- told after an attempt at a trial: something only as after the trial itself
abbrev pub Sought : List ℕ → ℕ → List ℕ → Option ℕ → Type 0
Sought ws t x o = IfSome o (Tried ws t x)

-- x after k rounds of a trial of t, which have told nothing
pub record Trying (ws : List ℕ) (t : ℕ) (x : List ℕ) (k : ℕ) : Type 0 where
  pub rounds : Rounds max_timing (registers ws) (constraints t (pairs ws)) x k
  pub capped : Capped max_timing x
