-- The registers that are forced late, as a forest in the scratch: in the first n places the depth of each register, from 1 at a root, 0 where
-- nothing forces it; in the next n the step that forces it; and from place 6n on whether the choice of a step is broken, 1 or 0.
use Rattle.std.specs.Prelude.{◌≡◌, ◌⊎◌, Bool, true, false, cond, List, [], ◌∷◌, ℕ, zero, suc}
use Rattle.std.specs.Prelude.{◌+◌, ◌*◌, ◌/◌, ◌%◌, ◌≤◌, ◌<◌, eqb, length, get_or, take, drop, set}
use Rattle.std.specs.Prelude.{Option, Some, None}
use Rattle.timing.specs.declared.Pair.{Pair}
use Rattle.timing.specs.Limits.{per_register, per_pair}
use Rattle.list_format.specs.Lists.{pair_count, pair_at}
use Rattle.split_laws.specs.Marks.{unset}
use Rattle.propagate.specs.Store.{Lent}
use Rattle.forced_late.specs.declared.Row.{Row}
use Rattle.forced_late.specs.declared.Row.TheVariants.{EarlyEarly, EarlyLate, LateEarly, LateLate}
use Rattle.forced_late.specs.declared.Way.{Way}
use Rattle.forced_late.specs.declared.Way.TheVariants.{Ahead, Back}

-- the rows of a step
abbrev pub early_early : ℕ
early_early = 0

abbrev pub early_late : ℕ
early_late = 1

abbrev pub late_early : ℕ
late_early = 2

abbrev pub late_late : ℕ
late_late = 3

abbrev pub number_of : Row → ℕ
number_of EarlyEarly = early_early
number_of EarlyLate = early_late
number_of LateEarly = late_early
number_of LateLate = late_late

-- the step that is a choice of pair k
abbrev pub step_of : Row → ℕ → ℕ
step_of row k = per_pair * k + number_of row

-- ---- what the scratch holds

abbrev pub depth_of : List ℕ → ℕ → ℕ
depth_of S r = get_or S r 0

abbrev pub step_to : ℕ → List ℕ → ℕ → ℕ
step_to n S r = get_or S (n + r) 0

-- the choice of step e is broken
abbrev pub IsBroken : ℕ → List ℕ → ℕ → Type 0
IsBroken n S e = get_or S (per_register * n + e) 0 ≡ 1

-- how many registers are deeper than a root
abbrev pub is_inner : ℕ → ℕ
is_inner zero = 0
is_inner (suc zero) = 0
is_inner (suc (suc x)) = 1

abbrev pub inner : List ℕ → ℕ
inner [] = 0
inner (x ∷ M) = is_inner x + inner M

-- ---- the forest

-- a step from a late register to a late one: late-early from the launch of its pair to the capture, early-late from the capture to the launch
abbrev pub source_of : List ℕ → ℕ → ℕ
source_of ws e = cond (eqb (e % per_pair) late_early) (pair_at ws (e / per_pair)).launch (pair_at ws (e / per_pair)).capture

abbrev pub target_of : List ℕ → ℕ → ℕ
target_of ws e = cond (eqb (e % per_pair) late_early) (pair_at ws (e / per_pair)).capture (pair_at ws (e / per_pair)).launch

-- register r is late as the capture of a pair whose choice early-early is broken, which is step e
pub record Root (ws : List ℕ) (n : ℕ) (S : List ℕ) (e r : ℕ) : Type 0 where
  pub row : e % per_pair ≡ early_early
  pub place : e / per_pair < pair_count ws
  pub breaks : IsBroken n S e
  pub capture : (pair_at ws (e / per_pair)).capture ≡ r
  pub depth : depth_of S r ≡ 1

-- register r is late by step e, as the register that e comes from is
pub record Child (ws : List ℕ) (n : ℕ) (S : List ℕ) (e r : ℕ) : Type 0 where
  pub row : (e % per_pair ≡ late_early) ⊎ (e % per_pair ≡ early_late)
  pub place : e / per_pair < pair_count ws
  pub breaks : IsBroken n S e
  pub target : target_of ws e ≡ r
  pub late : 1 ≤ depth_of S (source_of ws e)
  pub depth : depth_of S r ≡ depth_of S (source_of ws e) + 1

-- every register with a depth is one or the other, and the depths are no more than they need be
pub record Forest (ws : List ℕ) (n : ℕ) (S : List ℕ) : Type 0 where
  pub grown : (r : ℕ) → r < n → 1 ≤ depth_of S r → Root ws n S (step_to n S r) r ⊎ Child ws n S (step_to n S r) r
  pub deep : (r : ℕ) → r < n → depth_of S r ≤ 1 + inner (take n S)

-- a usable list with n registers and m pairs, room in the scratch, and a forest there
pub record Growing (ws : List ℕ) (n m : ℕ) (S : List ℕ) : Type 0 where
  pub lent : Lent ws n m S
  pub forest : Forest ws n S

-- ---- steps

-- register r has depth d and step e
abbrev pub put_at : ℕ → ℕ → ℕ → ℕ → List ℕ → List ℕ
put_at n r d e S = set (set S r d) (n + r) e

-- it gets them if it had no depth; o says whether
abbrev pub MarkedAs : Bool → ℕ → ℕ → ℕ → ℕ → List ℕ → List ℕ → Type 0
MarkedAs false n r d e S S' = (S' ≡ S) × (1 ≤ depth_of S r)
MarkedAs true n r d e S S' = (S' ≡ put_at n r d e S) × (depth_of S r ≡ 0)

pub record Marked (n r d e : ℕ) (S S' : List ℕ) (o : Bool) : Type 0 where
  pub is : MarkedAs o n r d e S S'

-- nothing is marked and C holds, or fewer registers are without a depth
abbrev pub GrowTold : Bool → ℕ → (List ℕ → Type 0) → List ℕ → List ℕ → Type 0
GrowTold false n C S S' = (S' ≡ S) × C S
GrowTold true n C S S' = unset (take n S') < unset (take n S)

-- from the forest S to the forest S': no depth is changed, but where there was none
pub record Grew (ws : List ℕ) (n : ℕ) (S S' : List ℕ) : Type 0 where
  pub size : length S' ≡ length S
  pub rest : drop (2 * n) S' ≡ drop (2 * n) S
  pub kept : (r : ℕ) → r < n → 1 ≤ depth_of S r → depth_of S' r ≡ depth_of S r
  pub forest : Forest ws n S'

-- so it is, and o says whether a register was marked; C is what the step was to bring about
pub record Grows (ws : List ℕ) (n : ℕ) (C : List ℕ → Type 0) (S S' : List ℕ) (o : Bool) : Type 0 where
  pub grew : Grew ws n S S'
  pub told : GrowTold o n C S S'

-- step e leads from the register `from` to the register `to`
pub record Along (ws : List ℕ) (n from to e : ℕ) : Type 0 where
  pub row : (e % per_pair ≡ late_early) ⊎ (e % per_pair ≡ early_late)
  pub place : e / per_pair < pair_count ws
  pub from_is : from ≡ source_of ws e
  pub to_is : to ≡ target_of ws e
  pub from_in : from < n
  pub to_in : to < n

-- where `from` is late and step e is broken, `to` is late
abbrev pub Forces : ℕ → ℕ → ℕ → ℕ → List ℕ → Type 0
Forces n from to e S = IsBroken n S e → 1 ≤ depth_of S from → 1 ≤ depth_of S to

-- the choice of a pair that leads ahead, from its launch to its capture, and the one that leads back
abbrev pub row_of : Way → Row
row_of Ahead = LateEarly
row_of Back = EarlyLate

abbrev pub from_of : Way → Pair → ℕ
from_of Ahead p = p.launch
from_of Back p = p.capture

abbrev pub to_of : Way → Pair → ℕ
to_of Ahead p = p.capture
to_of Back p = p.launch

-- so it is with the step of pair k that leads that way
abbrev pub WayForces : List ℕ → ℕ → ℕ → Way → List ℕ → Type 0
WayForces ws n k way = Forces n (from_of way (pair_at ws k)) (to_of way (pair_at ws k)) (step_of (row_of way) k)

-- and with both
abbrev pub PairForces : List ℕ → ℕ → ℕ → List ℕ → Type 0
PairForces ws n k S = WayForces ws n k Ahead S × WayForces ws n k Back S

-- and with every pair
abbrev pub AllForce : List ℕ → ℕ → List ℕ → Type 0
AllForce ws n S = (k : ℕ) → k < pair_count ws → PairForces ws n k S

-- ---- the roots

-- the capture of pair k is a root, where early-early is broken
abbrev pub IsSeeded : List ℕ → ℕ → ℕ → List ℕ → Type 0
IsSeeded ws n k S = IsBroken n S (per_pair * k + early_early) → depth_of S (pair_at ws k).capture ≡ 1

-- sweeps until nothing is marked
pub record SettledAs (ws : List ℕ) (n : ℕ) (S S' : List ℕ) : Type 0 where
  pub grew : Grew ws n S S'
  pub closed : AllForce ws n S'

-- a forest of roots only
pub record Roots (ws : List ℕ) (n m : ℕ) (S : List ℕ) : Type 0 where
  pub growing : Growing ws n m S
  pub flat : (r : ℕ) → r < n → depth_of S r ≤ 1

-- from one to another that has the root of pair k
pub record Rooted (ws : List ℕ) (n k : ℕ) (S S' : List ℕ) : Type 0 where
  pub grew : Grew ws n S S'
  pub flat : (r : ℕ) → r < n → depth_of S' r ≤ 1
  pub seeded : IsSeeded ws n k S'

-- and the roots of the first k pairs
pub record Seeding (ws : List ℕ) (n : ℕ) (S S' : List ℕ) (k : ℕ) : Type 0 where
  pub grew : Grew ws n S S'
  pub flat : (r : ℕ) → r < n → depth_of S' r ≤ 1
  pub seeded : (j : ℕ) → j < k → IsSeeded ws n j S'

-- ---- the whole

-- a list with its scratch, in which no register has a depth
pub record Blank (ws : List ℕ) (n m : ℕ) (S : List ℕ) : Type 0 where
  pub lent : Lent ws n m S
  pub blank : (r : ℕ) → r < n → depth_of S r ≡ 0

-- the forest of all registers that are forced late
pub record ForcedLate (ws : List ℕ) (n : ℕ) (S S' : List ℕ) : Type 0 where
  pub grew : Grew ws n S S'
  pub seeded : (k : ℕ) → k < pair_count ws → IsSeeded ws n k S'
  pub closed : AllForce ws n S'

-- pair k, whose choice late-late is broken, has a late launch
pub record Clashes (ws : List ℕ) (n : ℕ) (S : List ℕ) (k : ℕ) : Type 0 where
  pub breaks : IsBroken n S (per_pair * k + late_late)
  pub late : 1 ≤ depth_of S (pair_at ws k).launch

abbrev pub ClashTold : Bool → List ℕ → ℕ → List ℕ → ℕ → Type 0
ClashTold true ws n S k = Clashes ws n S k
ClashTold false ws n S k = Clashes ws n S k → ⊥

-- the first pair of m that does, or none
abbrev pub ClashAt : List ℕ → ℕ → ℕ → List ℕ → Option ℕ → Type 0
ClashAt ws n m S (Some k) = ((k < m) × Clashes ws n S k) × ((j : ℕ) → j < k → Clashes ws n S j → ⊥)
ClashAt ws n m S None = (j : ℕ) → j < m → Clashes ws n S j → ⊥
