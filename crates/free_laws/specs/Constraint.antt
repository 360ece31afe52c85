-- Setup and hold as rules of one kind, the times that meet them, and what all such times have in common.
use Rattle.std.specs.Prelude.{List, [], ◌∷◌, ◌≡◌, ℕ, ◌+◌, ◌*◌, ◌≤◌, ◌<◌, length}
use Rattle.timing.specs.declared.Pair.{Pair}
use Rattle.timing.specs.Rules.{time, Each}

-- time src + gain ≤ time dst + allowance
pub record Constraint : Type 0 where
  pub src : ℕ
  pub dst : ℕ
  pub gain : ℕ
  pub allowance : ℕ

-- times of the registers that meet a rule
abbrev pub Meets : (ℕ → ℕ) → Constraint → Type 0
Meets f r = f r.src + r.gain ≤ f r.dst + r.allowance

abbrev pub setup : ℕ → Pair → Constraint
setup t p = record { src = p.launch; dst = p.capture; gain = p.greatest; allowance = t }

abbrev pub hold : Pair → Constraint
hold p = record { src = p.capture; dst = p.launch; gain = 0; allowance = p.least }

-- both rules of each pair
abbrev pub constraints : ℕ → List Pair → List Constraint
constraints t [] = []
constraints t (p ∷ ps) = setup t p ∷ hold p ∷ constraints t ps

-- both ends among the first n registers
abbrev pub Within : ℕ → Constraint → Type 0
Within n r = (r.src < n) × (r.dst < n)

-- ---- the times that meet rules

-- no register of x is later than in f
abbrev pub Below : List ℕ → (ℕ → ℕ) → Type 0
Below x f = (r : ℕ) → time x r ≤ f r

-- it meets the rules, and no register is later than in any times that meet them
pub record Least (rs : List Constraint) (n : ℕ) (l : List ℕ) : Type 0 where
  pub size : length l ≡ n
  pub meets : Each (Meets (time l)) rs
  pub below : (f : ℕ → ℕ) → Each (Meets f) rs → Below l f

-- no times meet the rules at any period from 1 up that is shorter than b
pub record Bound (ps : List Pair) (b : ℕ) : Type 0 where
  pub under : (u : ℕ) (f : ℕ → ℕ) → 1 ≤ u → Each (Meets f) (constraints u ps) → b ≤ u

-- rules that lead from register `at` to register `start`: what they ask for, what they leave, and how many of them are setup
pub record Adds (ps : List Pair) (start at gain allowance setups : ℕ) : Type 0 where
  pub sums : (u : ℕ) (f : ℕ → ℕ) → Each (Meets f) (constraints u ps) → f at + gain ≤ f start + allowance + setups * u
