-- What the functions that raise a schedule ask for.
use Rattle.std.specs.Prelude.{ℕ, ◌<◌, ◌≤◌, List, length}
use Rattle.list_format.specs.Lists.{UsableList}
use Rattle.timing.specs.declared.Pair.{Pair}
use Rattle.timing.specs.Rules.{InRange}
use Rattle.timing.specs.Limits.{max_registers, max_pairs, max_period, max_timing}
use Rattle.free_laws.specs.Raise.{Capped}

-- x has a timing for each of at most so many registers, none past the limit
pub record Raisable (x : List ℕ) : Type 0 where
  pub few : length x ≤ max_registers
  pub capped : Capped max_timing x

-- pair k of a list, to be relaxed at period t
pub record Relaxable (x : List ℕ) (p : Pair) (t k : ℕ) : Type 0 where
  pub raisable : Raisable x
  pub inside : InRange (length x) p
  pub order : p.least ≤ p.greatest
  pub limit : p.greatest ≤ max_period
  pub period : t ≤ max_period
  pub place : k < max_pairs

-- a usable list, with a schedule to be raised at period t
pub record Raising (ws : List ℕ) (count t : ℕ) (x : List ℕ) : Type 0 where
  pub list : UsableList ws (length x) count
  pub capped : Capped max_timing x
  pub period : t ≤ max_period
