-- The two timing rules of a pair with their margins, schedules, and when a schedule is admissible.
-- As propositions the rules are on natural numbers, with what is subtracted brought to the other side.
use Rattle.std.specs.Prelude.{Bool, true, ◌&&◌, List, [], ◌∷◌, ℕ, ◌+◌, ◌≤◌, ◌<◌, ℤ, get_or}
use Rattle.std.proofs.Math.IntN.{sub_ℕ}
use Rattle.std.specs.Int.Signed.{non_neg}
use Rattle.timing.specs.declared.Pair.{Pair}

-- a pair from its four numbers
abbrev pub pair : ℕ → ℕ → ℕ → ℕ → Pair
pair a b least greatest = record { launch = a; capture = b; least = least; greatest = greatest }

-- ---- margins: the right side of a rule minus its left side, a whole number with sign

-- setup at period t, with launch time a and capture time b: a - b is at most t - greatest
abbrev pub setup_margin : Pair → ℕ → ℕ → ℕ → ℤ
setup_margin p t a b = sub_ℕ (b + t) (a + p.greatest)

-- hold: b - a is at most least
abbrev pub hold_margin : Pair → ℕ → ℕ → ℤ
hold_margin p a b = sub_ℕ (a + p.least) b

-- ---- as tests: a rule is met where its margin is not negative

abbrev pub setup_met : Pair → ℕ → ℕ → ℕ → Bool
setup_met p t a b = non_neg (setup_margin p t a b)

abbrev pub hold_met : Pair → ℕ → ℕ → Bool
hold_met p a b = non_neg (hold_margin p a b)

-- both rules
abbrev pub pair_met : Pair → ℕ → ℕ → ℕ → Bool
pair_met p t a b = setup_met p t a b && hold_met p a b

-- a schedule is a list of timings, one per register; this is the timing of register r
abbrev pub time : List ℕ → ℕ → ℕ
time s r = get_or s r 0

-- the schedule s is admissible at period t: each pair meets both rules
unfoldable pub admissible : ℕ → List Pair → List ℕ → Bool
admissible t [] s = true
admissible t (p ∷ ps) s = pair_met p t (time s p.launch) (time s p.capture) && admissible t ps s

-- ---- as propositions

-- a property of each element of a list
module _ {A : Type 0} where
  abbrev pub Each : (A → Type 0) → List A → Type 0
  Each P [] = Unit {0}
  Each P (x ∷ xs) = P x × Each P xs

-- both rules, with launch time a and capture time b
pub record Met (t a b : ℕ) (p : Pair) : Type 0 where
  pub setup : a + p.greatest ≤ b + t
  pub hold : b ≤ a + p.least

-- each pair meets both rules
abbrev pub Admissible : ℕ → List Pair → List ℕ → Type 0
Admissible t ps s = Each (λ p. Met t (time s p.launch) (time s p.capture) p) ps

-- both registers of a pair are among the first n
pub record InRange (n : ℕ) (p : Pair) : Type 0 where
  pub launch : p.launch < n
  pub capture : p.capture < n
