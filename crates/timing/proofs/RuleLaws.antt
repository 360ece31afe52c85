-- The tests and the propositions of the timing rules say the same.
use mathlib.Core.Bool.{Bool, true, false, ◌&&◌}
use mathlib.Core.List.{List, [], ◌∷◌}
use mathlib.Core.Path.{◌≡◌, refl}
use Prim.Native.Nat.{ℕ}
use Rattle.timing.specs.declared.Pair.{Pair}
use Rattle.timing.specs.Rules.{setup_met, hold_met, pair_met, time, admissible, Met, Admissible}
use Rattle.timing.proofs.MarginLaws.{not-negative→le, le→not-negative}

pub and-true : (a b : Bool) → a && b ≡ true → (a ≡ true) × (b ≡ true)
and-true true b e = (refl, e)
and-true false b e = (e, cc)

module _ (p : Pair) (t a b : ℕ) where
  pub test→met : pair_met p t a b ≡ true → Met t a b p
  test→met e =
      let both = and-true (setup_met p t a b) (hold_met p a b) e in
      record { setup = not-negative→le both.0; hold = not-negative→le both.1 }

  pub met→test : Met t a b p → pair_met p t a b ≡ true
  met→test m = rw (le→not-negative m.setup, le→not-negative m.hold)

module _ (t : ℕ) (s : List ℕ) where
  -- what passes meets every rule
  pub admissible-sound : (ps : List Pair) → admissible t ps s ≡ true → Admissible t ps s
  unfolding admissible
  admissible-sound [] e = tt
  admissible-sound (p ∷ ps) e =
      let both = and-true (pair_met p t (time s p.launch) (time s p.capture)) (admissible t ps s) e in
      (test→met p t _ _ both.0, admissible-sound ps both.1)

  -- what meets every rule passes
  pub admissible-complete : (ps : List Pair) → Admissible t ps s → admissible t ps s ≡ true
  unfolding admissible
  admissible-complete [] m = refl
  admissible-complete (p ∷ ps) m = rw (met→test p t _ _ m.0) (admissible-complete ps m.1)
