-- Setup and hold are rules of one kind: a list of pairs as a list of rules.
-- They are the two constraints of Fishburn 1990 (Kohira and Takahashi 2012, section 2), written without subtraction.
use mathlib.Core.Bool.{true}
use mathlib.Core.List.{List, [], ◌∷◌}
use mathlib.Core.Path.{◌≡◌}
use Prim.Native.Nat.{ℕ, ◌≤◌}
use native.Mathlib.Omega.{arith}
use Rattle.timing.specs.declared.Pair.{Pair}
use Rattle.timing.specs.Rules.{time, admissible, Each, InRange}
use Rattle.timing.proofs.RuleLaws.{admissible-sound, admissible-complete}
use Rattle.free_laws.specs.Constraint.{Constraint, Meets, setup, hold, constraints, Within}

-- a property of each rule, from what holds of each pair
pub each-rule : {P : Pair → Type 0} (Q : Constraint → Type 0) (t : ℕ) → ((p : Pair) → P p → Q (setup t p) × Q (hold p))
    → (ps : List Pair) → Each P ps → Each Q (constraints t ps)
each-rule Q t f [] h = tt
each-rule Q t f (p ∷ ps) h = ((f p h.0).0, ((f p h.0).1, each-rule Q t f ps h.1))

-- and back
pub each-pair : {P : Pair → Type 0} (Q : Constraint → Type 0) (t : ℕ) → ((p : Pair) → Q (setup t p) → Q (hold p) → P p)
    → (ps : List Pair) → Each Q (constraints t ps) → Each P ps
each-pair Q t f [] h = tt
each-pair Q t f (p ∷ ps) h = (f p h.0 h.1.0, each-pair Q t f ps h.1.1)

pub within : (n t : ℕ) (ps : List Pair) → Each (InRange n) ps → Each (Within n) (constraints t ps)
within n t = each-rule (Within n) t (λ p h. ((h.launch, h.capture), (h.capture, h.launch)))

-- what meets the rules meets them at a longer period
pub meets-longer : (f : ℕ → ℕ) (t u : ℕ) → t ≤ u → (ps : List Pair) → Each (Meets f) (constraints t ps) → Each (Meets f) (constraints u ps)
meets-longer f t u h ps m = each-rule (Meets f) u (λ p b. b) ps (each-pair (Meets f) t (λ p a b. (omega arith, b)) ps m)

-- the test and the rules say the same
module _ (t : ℕ) (ps : List Pair) (s : List ℕ) where
  pub admissible→meets : admissible t ps s ≡ true → Each (Meets (time s)) (constraints t ps)
  admissible→meets e = each-rule (Meets (time s)) t (λ p m. (m.setup, omega (arith, m.hold))) ps (admissible-sound t s ps e)

  pub meets→admissible : Each (Meets (time s)) (constraints t ps) → admissible t ps s ≡ true
  meets→admissible m =
      admissible-complete t s ps (each-pair (Meets (time s)) t (λ p a b. record { setup = a; hold = omega arith }) ps m)
