-- Chains of forced choices: why no split works at a period and an offset.
-- Where the choice of a row breaks a rule of a pair, one end with its choice forces the opposite choice on the other end.
use Rattle.std.specs.Prelude.{Bool, true, false, not, cond, ◌&&◌, ◌||◌, List, [], ◌∷◌, ◌≡◌, ℕ, ◌+◌, ◌-◌, ◌*◌, ◌/◌, ◌%◌, ◌≤◌, ◌<◌, ltb, eqb, length, get_or}
use Rattle.timing.specs.declared.Pair.{Pair}
use Rattle.timing.specs.Rules.{pair}
use Rattle.split_laws.specs.Choices.{is_late, row_launch, row_capture, broken_row}

-- a register with a choice, as one number: twice the register, and 1 more for late
abbrev pub node : ℕ → Bool → ℕ
node r false = r * 2
node r true = r * 2 + 1

-- a step names a pair and a row: 4 times the pair's index plus the row, early-early 0, early-late 1, late-early 2, late-late 3
abbrev pub index_of : ℕ → ℕ
index_of e = e / 4

abbrev pub row_of : ℕ → ℕ
row_of e = e % 4

abbrev pub step_pair : List Pair → ℕ → Pair
step_pair ps e = get_or ps (index_of e) (pair 0 0 0 0)

-- the choices of its launch and of its capture; true is late
abbrev pub launch_late : ℕ → Bool
launch_late e = is_late (row_launch (row_of e))

abbrev pub capture_late : ℕ → Bool
capture_late e = is_late (row_capture (row_of e))

-- the step is forced at node x, at period t and offset s: its choice breaks a rule of its pair, and x is one end of it
unfoldable pub stands : ℕ → ℕ → List Pair → ℕ → ℕ → Bool
stands t s ps e x =
    ltb (index_of e) (length ps)
    && broken_row t s (step_pair ps e) (row_of e)
    && (eqb x (node (step_pair ps e).launch (launch_late e)) || eqb x (node (step_pair ps e).capture (capture_late e)))

-- where it leads: the other end has the opposite choice
unfoldable pub next : List Pair → ℕ → ℕ → ℕ
next ps e x =
    cond (eqb x (node (step_pair ps e).launch (launch_late e)))
    (node (step_pair ps e).capture (not (capture_late e)))
    (node (step_pair ps e).launch (not (launch_late e)))

-- the steps es lead from node x to node y
unfoldable pub leads : ℕ → ℕ → List Pair → List ℕ → ℕ → ℕ → Bool
leads t s ps [] x y = eqb x y
leads t s ps (e ∷ es) x y = stands t s ps e x && leads t s ps es (next ps e x) y

-- two chains of steps at a register
pub record Chains : Type 0 where
  pub register : ℕ
  pub first : List ℕ
  pub second : List ℕ

-- a chain of n registers has from 1 to 2n - 1 steps
pub record ChainSize (n size : ℕ) : Type 0 where
  pub from : 1 ≤ size
  pub upto : size ≤ 2 * n - 1

-- the register can be neither early nor late: the first chain leads from early to late, the second from late back to early
pub record Blocks (n t s : ℕ) (ps : List Pair) (x : Chains) : Type 0 where
  pub register : x.register < n
  pub first : leads t s ps x.first (node x.register false) (node x.register true) ≡ true
  pub second : leads t s ps x.second (node x.register true) (node x.register false) ≡ true
  pub first_size : ChainSize n (length x.first)
  pub second_size : ChainSize n (length x.second)
