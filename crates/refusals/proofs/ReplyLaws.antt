-- What a call comes to, from the run of its checks.
use Prim.Native.Nat.{ℕ}
use native.Mathlib.Omega.{arith}
use mathlib.Core.Bool.{Bool, true, false}
use mathlib.Core.List.{List, [], ◌∷◌, ◌++◌}
use mathlib.Core.Path.{◌≡◌, refl, sym, ap, ◌∙◌}
use Rattle.buffers.specs.Over.{over}
use Rattle.std.specs.Prelude.{Ok, Err}
use Rattle.refusals.specs.Checks.{Check, Fault, no_fault, number_of, refused_at, checked, or_check, fault_after, first_fault}
use Rattle.refusals.specs.declared.Refusal.{Refusal}
use Rattle.refusals.specs.declared.Refused.{Refused}
use Rattle.refusals.specs.Reply.{refusal, numbers, Outcome, refused, done, reply_of, buffer_after, told, answered, unless}
use Rattle.refusals.proofs.CheckLaws.{stop-first, pass-first}

found_in : Refused → Fault → Refused
found_in r (Ok u) = r
found_in r (Err w) = w

-- a single check
pub one-fails : {b : Bool} {why : Refusal} {place : ℕ} → b ≡ true → first_fault ((b, why, place) ∷ []) ≡ Err (refused_at why place)
unfolding or_check fault_after
one-fails e = rw e

pub one_passes : {b : Bool} (why : Refusal) (place : ℕ) → b ≡ false → first_fault ((b, why, place) ∷ []) ≡ no_fault
unfolding or_check fault_after
one_passes why place e = rw e

-- what one check finds tells whether it fails, and where it does the refusal with its place
pub check-fails : (b : Bool) (why : Refusal) (place : ℕ) {r : Refused} → checked (b, why, place) ≡ Err r → (b ≡ true) × (r ≡ refused_at why place)
unfolding or_check found_in
check-fails true why place {r} e = (refl, sym (ap (found_in r) e))
check-fails false why place {r} e =
    let z : ◌≡◌ {A = ℕ} 0 1 = cc in
    absurd (omega arith)

pub check-holds : (b : Bool) (why : Refusal) (place : ℕ) → checked (b, why, place) ≡ no_fault → b ≡ false
unfolding or_check
check-holds true why place e =
    let z : ◌≡◌ {A = ℕ} 0 1 = cc in
    absurd (omega arith)
check-holds false why place e = refl

module _ (cs : List Check) (o : Outcome) where
  pub answered-refused : {r : Refused} → first_fault cs ≡ Err r → answered cs o ≡ refused (number_of r.refusal) r.place
  unfolding unless
  answered-refused e = rw e

  pub answered-done : first_fault cs ≡ no_fault → answered cs o ≡ o
  unfolding unless
  answered-done e = rw e

-- checks of the list, then checks of the call
module _ (xs ys : List Check) (o : Outcome) where
  pub first-refused : {r : Refused} → first_fault xs ≡ Err r → answered (xs ++ ys) o ≡ refused (number_of r.refusal) r.place
  first-refused e = answered-refused (xs ++ ys) o (stop-first xs ys e)

  pub then-refused : {r : Refused} → first_fault xs ≡ no_fault → first_fault ys ≡ Err r → answered (xs ++ ys) o ≡ refused (number_of r.refusal) r.place
  then-refused e f = answered-refused (xs ++ ys) o (pass-first xs ys e ∙ f)

  pub then-done : first_fault xs ≡ no_fault → first_fault ys ≡ no_fault → answered (xs ++ ys) o ≡ o
  then-done e f = answered-done (xs ++ ys) o (pass-first xs ys e ∙ f)

-- numbers are returned only where no check fails
pub numbers-none : (f : Fault) (o : Outcome) {xs : List ℕ} → numbers xs ≡ reply_of (unless f o) → f ≡ no_fault
unfolding reply_of unless
numbers-none (Ok u) o e = refl
numbers-none (Err r) o e =
    let z : ◌≡◌ {A = ℕ} 0 1 = cc in
    absurd (omega arith)

-- and the outcome is then the one after all checks
pub numbers-done : (cs : List Check) (o : Outcome) {xs : List ℕ} → numbers xs ≡ reply_of (answered cs o) → answered cs o ≡ o
numbers-done cs o e = answered-done cs o (numbers-none (first_fault cs) o e)

-- ---- from the reply to what is told

module _ {A : Type 0} (f : ℕ → ℕ → A) (g : List ℕ → List ℕ → A) where
  pub told-refusal : (o : Outcome) {number place : ℕ} → refusal number place ≡ reply_of o → told f g o ≡ f number place
  unfolding reply_of told
  told-refusal (refused number place) e = cc
  told-refusal (done returned stored) e =
      let z : ◌≡◌ {A = ℕ} 0 1 = cc in
      absurd (omega arith)

  -- g may be given the buffer in place of what was stored
  pub told-numbers : (was : List ℕ) → ((xs ys : List ℕ) → g xs (over ys was) ≡ g xs ys) → (o : Outcome) {xs : List ℕ} → numbers xs ≡ reply_of o
      → told f g o ≡ g xs (buffer_after o was)
  unfolding reply_of told buffer_after
  told-numbers was same (refused number place) e =
      let z : ◌≡◌ {A = ℕ} 0 1 = cc in
      absurd (omega arith)
  told-numbers was same (done returned stored) {xs} e =
      let e' : returned ≡ xs = cc in
      rw (e', same xs stored)
