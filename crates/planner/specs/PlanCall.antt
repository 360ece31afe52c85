-- What a call for the full plan comes to.
use Rattle.std.specs.Prelude.{ℕ, ◌*◌, ◌≤◌, List, [], ◌∷◌, ◌++◌, ◌≡◌, ltb, length, take, drop, Result, Ok, Err}
use Rattle.timing.specs.Limits.{scratch_places}
use Rattle.buffers.specs.Over.{over}
use Rattle.refusals.specs.Checks.{Check, first_fault, no_fault}
use Rattle.refusals.specs.declared.Refused.{Refused}
use Rattle.refusals.specs.declared.Refusal.TheVariants.{Room, Scratch}
use Rattle.refusals.specs.Reply.{Reply, refusal_of, numbers, Outcome, done, reply_of, buffer_after, scratch_after, answered}
use Rattle.list_format.specs.Lists.{registers, pair_count, pairs, list_checks, UsableList}
use Rattle.free_laws.specs.Free.{common, free_period, free_schedule}
use Rattle.plan_laws.specs.Plan.{two_period, two_offset, two_timings}
use Rattle.plan_laws.specs.Unbeaten.{Unbeaten}
use Rattle.checker.specs.Check.{Passes}
use Rattle.planner.specs.declared.Planned.{Planned}

-- 2: an answer buffer of fewer than 2n places. 1: too little scratch
abbrev pub plan_call_checks : ℕ → ℕ → ℕ → ℕ → List Check
plan_call_checks n m room spare =
    (ltb room (2 * n), Room, 0)
    ∷ (ltb spare (scratch_places n m), Scratch, 0)
    ∷ []

-- 11 to 20, then 2, 1
abbrev pub plan_checks : List ℕ → ℕ → ℕ → List Check
plan_checks ws room spare = list_checks ws ++ plan_call_checks (registers ws) (pair_count ws) room spare

-- what is returned: three periods and the offset
abbrev pub plan_numbers : List ℕ → List ℕ
plan_numbers ws =
    common (pairs ws) ∷ free_period (registers ws) (pairs ws) ∷ two_period (registers ws) (pairs ws) ∷ two_offset (registers ws) (pairs ws) ∷ []

-- what is stored: the free timings fill n places, the split's timings the next n
abbrev pub plan_timings : List ℕ → List ℕ
plan_timings ws = free_schedule (registers ws) (pairs ws) ++ two_timings (registers ws) (pairs ws)

unfoldable pub planning : List ℕ → ℕ → ℕ → Outcome
planning ws room spare = answered (plan_checks ws room spare) (done (plan_numbers ws) (plan_timings ws))

-- the periods and the offset, or a refusal with its place
abbrev pub Planning : Type 0
Planning = Result Planned Refused

-- the number and values of each case of the answer
unfoldable pub plan_reply : Planning → Reply
plan_reply (Ok p) = numbers (p.common ∷ p.free ∷ p.two ∷ p.offset ∷ [])
plan_reply (Err r) = refusal_of r

-- the call with the words ws: what is returned, and each place of both buffers, for every input
pub record PlanAs (ws answer answer' scratch scratch' : List ℕ) (r : Planning) : Type 0 where
  pub reply : plan_reply r ≡ reply_of (planning ws (length answer) (length scratch))
  pub stored : answer' ≡ buffer_after (planning ws (length answer) (length scratch)) answer
  pub left : scratch' ≡ scratch_after (planning ws (length answer) (length scratch)) (scratch_places (registers ws) (pair_count ws)) scratch
  -- no rival beats the numbers returned and the timings in the first 2n places
  pub unbeaten : (p : Planned) → r ≡ Ok p
      → Unbeaten (registers ws) (pairs ws) p.common p.free p.two p.offset (take (registers ws) answer') (take (registers ws) (drop (registers ws) answer'))
  -- brought to a check, the free timings pass at the free period, the split's timings at the two-timing period
  pub passes : (p : Planned) → r ≡ Ok p
      → Passes ws p.free (take (registers ws) answer') × Passes ws p.two (take (registers ws) (drop (registers ws) answer'))

-- ---- a call that no refusal fits

-- of a usable list with n registers and m pairs, with `room` places for the answer and `spare` places of scratch
pub record PlanAllowed (ws : List ℕ) (n m room spare : ℕ) : Type 0 where
  pub none : first_fault (plan_checks ws room spare) ≡ no_fault
  pub list : UsableList ws n m
  pub answers : 2 * n ≤ room
  pub scratches : scratch_places n m ≤ spare

-- ---- the plan of a usable list

-- such a list with n registers and m pairs, and 2n places
pub record PlanRoom (ws : List ℕ) (n m : ℕ) (answer : List ℕ) : Type 0 where
  pub list : UsableList ws n m
  pub places : 2 * n ≤ length answer

-- the plan is returned, with its timings in the first 2n places
pub record PlanIn (ws answer answer' : List ℕ) (r : Planning) : Type 0 where
  pub reply : plan_reply r ≡ numbers (plan_numbers ws)
  pub stored : answer' ≡ over (plan_timings ws) answer

-- the two-timing period, with the split's timings in the places lent for them
pub record TwoIn (ws part : List ℕ) (two : ℕ) : Type 0 where
  pub period : two ≡ two_period (registers ws) (pairs ws)
  pub timings : part ≡ two_timings (registers ws) (pairs ws)
