-- The reach of a register: at every period below it, each split that works has the register late.
-- Three facts raise it. Where none raises any reach further, the reaches give the two-timing period and its split.
-- Each period comes with the offset that brings it up to `top`, which no greatest delay is above: the common period,
-- or as many parts of it as a picosecond has, for delays counted in parts.
use Rattle.std.specs.Prelude.{◌≡◌, Bool, true, false, List, [], ◌∷◌, map, ℕ, ◌+◌, ◌-◌, ◌/◌, ◌≤◌, ◌<◌, max, min, ltb, length, get_or, set}
use Rattle.timing.specs.declared.Pair.{Pair}
use Rattle.split_laws.specs.Split.{works}

-- the reach of register r
abbrev pub reach_of : List ℕ → ℕ → ℕ
reach_of W r = get_or W r 0

-- at every period below v each split that works has register r late
abbrev pub Forces : ℕ → List Pair → ℕ → ℕ → Type 0
Forces top ps r v = (t : ℕ) → t < v → (c : List Bool) → works t (top - t) ps c ≡ true → get_or c r false ≡ true

-- W are reaches of the registers, none above top
pub record Reaches (top : ℕ) (ps : List Pair) (W : List ℕ) : Type 0 where
  pub under : (r : ℕ) → reach_of W r ≤ top
  pub late : (r : ℕ) → Forces top ps r (reach_of W r)

-- below v, which is not above top, no split works
pub record NoneBelow (top : ℕ) (ps : List Pair) (v : ℕ) : Type 0 where
  pub under : v ≤ top
  pub none : (t : ℕ) → t < v → (c : List Bool) → works t (top - t) ps c ≡ true → ⊥

-- ---- how far a pair takes its ends

-- its capture: below the greatest delay only a late one meets setup; below half of that and top, with a late launch, too
abbrev pub ahead : ℕ → Pair → List ℕ → ℕ
ahead top p W = max p.greatest (min (reach_of W p.launch) ((top + p.greatest + 1) / 2))

-- its launch: below top less the least delay, with a late capture, only a late one meets hold
abbrev pub behind : ℕ → Pair → List ℕ → ℕ
behind top p W = min (reach_of W p.capture) (top - p.least)

-- the pair takes neither any further
pub record ReachClosed (top : ℕ) (W : List ℕ) (p : Pair) : Type 0 where
  pub capture : ahead top p W ≤ reach_of W p.capture
  pub launch : behind top p W ≤ reach_of W p.launch

-- ---- the period and the split that reaches give

-- `start`, or the largest that a pair asks for: below both its greatest delay and its launch's reach no split works
unfoldable pub reach_period : ℕ → List Pair → List ℕ → ℕ
reach_period start [] W = start
reach_period start (p ∷ ps) W = max (min (reach_of W p.launch) p.greatest) (reach_period start ps W)

-- late where the reach is above t
unfoldable pub late_above : ℕ → List ℕ → List Bool
late_above t W = map (ltb t) W

-- ---- steps that raise reaches

-- whether the raise of register r to v moved it
abbrev pub Rose : Bool → ℕ → ℕ → List ℕ → List ℕ → Type 0
Rose false r v W W' = (W' ≡ W) × (v ≤ reach_of W r)
Rose true r v W W' = (W' ≡ set W r v) × (reach_of W r < v)

-- register r is raised to at least v
pub record Raised (r v : ℕ) (W W' : List ℕ) (o : Bool) : Type 0 where
  pub rose : Rose o r v W W'

-- how much the reaches can still rise
abbrev pub room : ℕ → List ℕ → ℕ
room top [] = 0
room top (x ∷ W) = (top - x) + room top W

-- nothing moved and D holds, or there is less to rise
abbrev pub ReachTold : Bool → ℕ → (List ℕ → Type 0) → List ℕ → List ℕ → Type 0
ReachTold false top D W W' = (W' ≡ W) × D W
ReachTold true top D W W' = room top W' < room top W

-- from the reaches W to the reaches W'; D is what the step was to bring about
pub record ReachStep (top : ℕ) (ps : List Pair) (D : List ℕ → Type 0) (W W' : List ℕ) (o : Bool) : Type 0 where
  pub size : length W' ≡ length W
  pub reaches : Reaches top ps W'
  pub told : ReachTold o top D W W'
