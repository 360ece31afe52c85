-- What is known of a pair where one of its four choices breaks a rule.
use mathlib.Core.Path.{◌≡◌, refl}
use mathlib.Core.Bool.{Bool, true, false, not}
use Prim.Native.Nat.{ℕ}
use native.Mathlib.Omega.{arith}
use Rattle.timing.specs.declared.Pair.{Pair}
use Rattle.timing.specs.Rules.{pair_met}
use Rattle.timing.proofs.RuleLaws.{test→met, met→test}
use Rattle.split_laws.specs.Split.{time_of, meets}
use Rattle.split_laws.specs.Choices.{is_late, row_launch, row_capture, broken_row, flag, flag_at}

module _ (t s : ℕ) (p : Pair) where
  -- a late launch makes setup no easier: where early, early is broken, so is late, early
  pub late-launch : meets t s p true false ≡ true → meets t s p false false ≡ true
  late-launch e =
      let m = test→met p t s 0 e in
      met→test p t 0 0 (record { setup = omega arith; hold = omega arith })

  -- a row's flag is 1 exactly where its choice is broken
  pub flag_one : (k : ℕ) → flag_at t s p k ≡ 1 → broken_row t s p k ≡ true
  flag_one k e = go (broken_row t s p k) e
    where
      go : (b : Bool) → flag b ≡ 1 → b ≡ true
      go false e = absurd (omega arith)
      go true e = refl

  -- the flag of row k, from the times of its choices x and y
  pub flag_is : (k : ℕ) {x y a b : ℕ} → x ≡ row_launch k → y ≡ row_capture k → a ≡ time_of s (is_late x) → b ≡ time_of s (is_late y)
      → {m : Bool} → pair_met p t a b ≡ m → flag (not m) ≡ flag_at t s p k
  flag_is k ex ey ea eb e = rw (← ex, ← ey, ← ea, ← eb, e)
