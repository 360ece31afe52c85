-- The chains that a forest of registers forced late gives, where a pair whose choice late-late is broken has a late launch.
use Rattle.std.specs.Prelude.{◌≡◌, Bool, true, false, cond, List, [], ◌∷◌, ◌++◌, ℕ, zero, suc, ◌+◌, ◌-◌, ◌*◌, ◌/◌, ◌≤◌, ◌<◌, eqb, length, get_or, take}
use Rattle.timing.specs.Limits.{per_pair}
use Rattle.buffers.specs.Run.{run}
use Rattle.buffers.specs.Over.{over}
use Rattle.list_format.specs.Lists.{pair_count, pair_at, place_of}
use Rattle.chain_laws.specs.Chains.{Chains}
use Rattle.forced_late.specs.Forest.{late_early, late_late, depth_of, step_to, source_of, Growing, IsSeeded, Clashes}

-- ---- the path from register r up to its root

-- the register i steps up
unfoldable pub ancestor : List ℕ → ℕ → List ℕ → ℕ → ℕ → ℕ
ancestor ws n S r zero = r
ancestor ws n S r (suc i) = source_of ws (step_to n S (ancestor ws n S r i))

-- the step that leads to it
abbrev pub step_up : List ℕ → ℕ → List ℕ → ℕ → ℕ → ℕ
step_up ws n S r i = step_to n S (ancestor ws n S r i)

-- how many steps there are
abbrev pub height_of : List ℕ → ℕ → ℕ
height_of S r = depth_of S r - 1

abbrev pub root_of : List ℕ → ℕ → List ℕ → ℕ → ℕ
root_of ws n S r = ancestor ws n S r (height_of S r)

-- the steps up to the root, and those from the root down
abbrev pub path_up : List ℕ → ℕ → List ℕ → ℕ → List ℕ
path_up ws n S r = run (λ i. step_up ws n S r i ∷ []) (height_of S r)

abbrev pub path_down : List ℕ → ℕ → List ℕ → ℕ → List ℕ
path_down ws n S r = run (λ i. step_up ws n S r (height_of S r - 1 - i) ∷ []) (height_of S r)

-- ---- the two chains

-- early-early of a pair, which is step e, then late-early; the first step alone for a pair that joins a register to itself
abbrev pub first_chain : List ℕ → ℕ → List ℕ
first_chain ws e = cond (eqb (pair_at ws (e / per_pair)).launch (pair_at ws (e / per_pair)).capture) (e ∷ []) (e ∷ (e + late_early) ∷ [])

-- down to the launch of pair k, then late-late of that pair; if this does not come to the root, late-early and the path up again
abbrev pub chain_by : List ℕ → ℕ → ℕ → List ℕ → List ℕ → List ℕ
chain_by ws k root down up =
    down ++ ((per_pair * k + late_late) ∷ cond (eqb (pair_at ws k).capture root) [] ((per_pair * k + late_early) ∷ up))

abbrev pub second_chain : List ℕ → ℕ → List ℕ → ℕ → List ℕ
second_chain ws n S k =
    chain_by ws k (root_of ws n S (pair_at ws k).launch) (path_down ws n S (pair_at ws k).launch) (path_up ws n S (pair_at ws k).launch)

-- those that pair k gives
abbrev pub chains_of : List ℕ → ℕ → List ℕ → ℕ → Chains
chains_of ws n S k = record {
  register = root_of ws n S (pair_at ws k).launch;
  first = first_chain ws (step_to n S (root_of ws n S (pair_at ws k).launch));
  second = second_chain ws n S k;
}

-- ---- what the routines that store them ask for and bring about

-- register r, which is forced late
pub record Late (ws : List ℕ) (n m : ℕ) (S : List ℕ) (r : ℕ) : Type 0 where
  pub growing : Growing ws n m S
  pub inside : r < n
  pub late : 1 ≤ depth_of S r

-- its root is b, and the path up stands in the places from 2n on
pub record Traced (ws : List ℕ) (n r : ℕ) (S S' : List ℕ) (b : ℕ) : Type 0 where
  pub root : b ≡ root_of ws n S r
  pub stored : S' ≡ over (take (2 * n) S ++ path_up ws n S r) S

-- the steps of a path, in their order or the last of them first
abbrev pub path_in : Bool → List ℕ → List ℕ
path_in down path = run (λ i. get_or path (place_of (length path) down i) 0 ∷ []) (length path)

-- the second chain along such a path
abbrev pub chain_in : List ℕ → ℕ → ℕ → List ℕ → List ℕ
chain_in ws k b path = chain_by ws k b (path_in true path) (path_in false path)

-- pair k clashes, every critical capture is a root, and there is room for the answer
pub record Clashing (ws : List ℕ) (n m k : ℕ) (answer S : List ℕ) : Type 0 where
  pub growing : Growing ws n m S
  pub seeded : (j : ℕ) → j < pair_count ws → IsSeeded ws n j S
  pub below : k < m
  pub clashes : Clashes ws n S k
  pub room : 4 * n ≤ length answer
