-- What the sweeps over a list ask for and what they bring about.
use Rattle.std.specs.Prelude.{ℕ, ◌≤◌, ◌<◌, List, ◌≡◌, length}
use Rattle.timing.specs.declared.Pair.{Pair}
use Rattle.timing.specs.Rules.{InRange}
use Rattle.timing.specs.Limits.{max_period}
use Rattle.list_format.specs.Lists.{registers, pair_count, pair_at, pairs, UsableList}
use Rattle.free_laws.specs.Free.{common}
use Rattle.split_laws.specs.Split.{timings}
use Rattle.plan_laws.specs.Plan.{two_period, two_offset, two_timings}
use Rattle.plan_laws.specs.Reach.{Reaches, NoneBelow, ReachClosed, late_above}

-- a pair with a reach for each of its registers, and delays no more than top
pub record PairReaching (p : Pair) (top : ℕ) (W : List ℕ) : Type 0 where
  pub inside : InRange (length W) p
  pub order : p.least ≤ top
  pub under : p.greatest ≤ top
  pub limit : top ≤ max_period

-- a usable list with its common period, and reaches of its registers
pub record Reaching (ws : List ℕ) (count top : ℕ) (W : List ℕ) : Type 0 where
  pub list : UsableList ws (length W) count
  pub top_is : top ≡ common (pairs ws)
  pub reaches : Reaches top (pairs ws) W

-- such reaches, and a period below which no split works
pub record Guided (ws : List ℕ) (count top : ℕ) (W : List ℕ) (most : ℕ) : Type 0 where
  pub reaching : Reaching ws count top W
  pub none : NoneBelow top (pairs ws) most

-- pair k raises no reach further
abbrev pub ClosedAt : List ℕ → ℕ → ℕ → List ℕ → Type 0
ClosedAt ws top k W = ReachClosed top W (pair_at ws k)

-- no pair does
abbrev pub ClosedAll : List ℕ → ℕ → List ℕ → Type 0
ClosedAll ws top W = (k : ℕ) → k < pair_count ws → ClosedAt ws top k W

-- reaches that rise no further
pub record Swept (ws : List ℕ) (count top : ℕ) (W : List ℕ) : Type 0 where
  pub reaching : Reaching ws count top W
  pub closed : ClosedAll ws top W

-- the two-timing period, with reaches that give its split
pub record Reached (ws W : List ℕ) (two : ℕ) : Type 0 where
  pub period : two ≡ two_period (registers ws) (pairs ws)
  pub split : two_timings (registers ws) (pairs ws) ≡ timings (two_offset (registers ws) (pairs ws)) (late_above two W)
  pub size : length W ≡ registers ws
