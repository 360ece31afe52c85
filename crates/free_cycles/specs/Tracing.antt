-- What is known of a trail back along rules of a delay list.
use Rattle.std.specs.Prelude.{ℕ, ◌*◌, ◌≤◌, ◌<◌, List, ◌≡◌}
use Rattle.timing.specs.Limits.{max_period}
use Rattle.list_format.specs.Lists.{registers, pairs}
use Rattle.free_laws.specs.Constraint.{Adds}
use Rattle.free_cycles.specs.declared.Trail.{Trail}

-- n steps at most, along rules of the list
pub record Traced (ws : List ℕ) (n : ℕ) (w : Trail) : Type 0 where
  pub inside : w.at < registers ws
  pub most : w.steps ≤ n
  pub setups : w.setups ≤ w.steps
  pub gain : w.gain ≤ max_period * w.setups
  pub allowance : w.allowance ≤ max_period * w.steps
  pub adds : Adds (pairs ws) w.start w.at w.gain w.allowance w.setups

-- a step further
pub record Further (ws : List ℕ) (n : ℕ) (w r : Trail) : Type 0 where
  pub start : r.start ≡ w.start
  pub on : w.steps < r.steps
  pub traced : Traced ws n r
