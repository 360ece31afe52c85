-- The first pair that breaks a rule, and the rule of it that is named: no rule before it is broken.
use Prim.Native.Nat.{ℕ, ◌<◌, zero-le}
use mathlib.Core.Bool.{Bool, true, false, not, cond}
use mathlib.Core.List.{List}
use mathlib.Core.Logic.{◌⊎◌, inl, inr}
use mathlib.Core.Path.{◌≡◌, refl}
use native.Mathlib.Nat.{eq-or-lt_of_le}
use native.Mathlib.Omega.{arith}
use borrow.Author.Tests.{not-true, not-false}
use lib.Signed.{non_neg}
use Rattle.timing.proofs.RuleLaws.{and-true}
use Rattle.search.proofs.SearchLaws.{IsLeast, least-is-least}
use Rattle.list_format.specs.Lists.{pair_count}
use Rattle.checker.specs.Check.{margin_at, met_at, first_broken, broken_rule, rule_number, margin_place, IsFirstBroken}
use Rattle.checker.specs.declared.Rule.{Rule}
use Rattle.checker.specs.declared.Rule.TheVariants.{Setup, Hold}

module _ (ws : List ℕ) (t : ℕ) (s : List ℕ) where
  -- the least place whose pair fails the test of both rules
  pub first-is : IsLeast (λ k. not (met_at ws t s k)) 0 (pair_count ws) (first_broken ws t s)
  unfolding first_broken
  first-is = least-is-least (λ k. not (met_at ws t s k)) 0 (pair_count ws) zero-le

  met-before : (j : ℕ) → j < first_broken ws t s → (rule : Rule) → non_neg (margin_at ws t s j rule) ≡ true
  unfolding met_at
  met-before j h Setup = (and-true _ (non_neg (margin_at ws t s j Hold)) (not-false _ (first-is.before j zero-le h))).0
  met-before j h Hold = (and-true (non_neg (margin_at ws t s j Setup)) _ (not-false _ (first-is.before j zero-le h))).1

  -- where setup of that pair is met too
  met-before-hold : non_neg (margin_at ws t s (first_broken ws t s) Setup) ≡ true → (k : ℕ) (rule : Rule)
      → margin_place k rule < margin_place (first_broken ws t s) Hold → non_neg (margin_at ws t s k rule) ≡ true
  unfolding rule_number
  met-before-hold e k Hold l = met-before k (omega arith) Hold
  met-before-hold e k Setup l = go (eq-or-lt_of_le (omega arith))
    where
      go : (k ≡ first_broken ws t s) ⊎ (k < first_broken ws t s) → non_neg (margin_at ws t s k Setup) ≡ true
      go (inl q) = rw q e
      go (inr h) = met-before k h Setup

  pub broken-first : first_broken ws t s < pair_count ws → IsFirstBroken ws t s (first_broken ws t s, broken_rule ws t s (first_broken ws t s))
  unfolding broken_rule met_at rule_number
  broken-first h = go (non_neg (margin_at ws t s (first_broken ws t s) Setup)) refl
    where
      go : (x : Bool) → non_neg (margin_at ws t s (first_broken ws t s) Setup) ≡ x → IsFirstBroken ws t s (first_broken ws t s, cond x Hold Setup)
      go false e = record { below = h; broken = e; first = λ k rule l. met-before k (omega arith) rule }
      go true e = record { below = h; broken = rw e at (not-true (met_at ws t s (first_broken ws t s)) (first-is.passes h)); first = met-before-hold e }
