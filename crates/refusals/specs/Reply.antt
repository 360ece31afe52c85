-- What a call comes to: a refusal, or the numbers returned and what the answer buffer then holds.
use Rattle.std.specs.Prelude.{ℕ, List, Ok, Err}
use Rattle.buffers.specs.Over.{over, zeros}
use Rattle.refusals.specs.Checks.{Check, Fault, number_of, first_fault}
use Rattle.refusals.specs.declared.Refused.{Refused}

-- what a caller is told: a refusal's number and place, or the numbers returned
pub data Reply : Type 0 where
  refusal : ℕ → ℕ → Reply
  numbers : List ℕ → Reply

-- a refusal by its number
abbrev pub refusal_of : Refused → Reply
refusal_of r = refusal (number_of r.refusal) r.place

-- what a call comes to: with the numbers returned, what stands in the first places of the answer buffer
pub data Outcome : Type 0 where
  refused : ℕ → ℕ → Outcome
  done : List ℕ → List ℕ → Outcome

unfoldable pub reply_of : Outcome → Reply
reply_of (refused number place) = refusal number place
reply_of (done returned stored) = numbers returned

-- the answer buffer afterwards: a refusal keeps it whole
unfoldable pub buffer_after : Outcome → List ℕ → List ℕ
buffer_after (refused number place) buffer = buffer
buffer_after (done returned stored) buffer = over stored buffer

-- the scratch afterwards, of which a call takes the first k places: a refusal keeps it whole, any other result leaves zeros there
unfoldable pub scratch_after : Outcome → ℕ → List ℕ → List ℕ
scratch_after (refused number place) k scratch = scratch
scratch_after (done returned stored) k scratch = over (zeros k) scratch

-- what a call comes to, put in words: by f if it is refused, by g if it is done
unfoldable pub told : {A : Type 0} → (ℕ → ℕ → A) → (List ℕ → List ℕ → A) → Outcome → A
told f g (refused number place) = f number place
told f g (done returned stored) = g returned stored

-- the first check that fails refuses; else the outcome
unfoldable pub unless : Fault → Outcome → Outcome
unless (Err r) o = refused (number_of r.refusal) r.place
unless (Ok u) o = o

abbrev pub answered : List Check → Outcome → Outcome
answered cs o = unless (first_fault cs) o
