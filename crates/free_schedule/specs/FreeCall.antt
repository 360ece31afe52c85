-- What a call for the common and the free period and the free schedule comes to.
use Rattle.std.specs.Prelude.{ℕ, ◌≤◌, List, [], ◌∷◌, ◌++◌, ◌≡◌, ltb, length, take, Result, Ok, Err}
use Rattle.buffers.specs.Over.{over}
use Rattle.refusals.specs.Checks.{Check}
use Rattle.refusals.specs.declared.Refused.{Refused}
use Rattle.refusals.specs.declared.Refusal.TheVariants.{Room}
use Rattle.refusals.specs.Reply.{Reply, refusal_of, numbers, Outcome, done, reply_of, buffer_after, answered}
use Rattle.list_format.specs.Lists.{registers, pairs, list_checks, UsableList}
use Rattle.free_laws.specs.Free.{common, free_period, free_schedule}
use Rattle.free_laws.specs.Unbeaten.{UnbeatenFree}
use Rattle.checker.specs.Check.{Passes}
use Rattle.free_schedule.specs.declared.Periods.{Periods}

-- 2: an answer buffer of fewer than n places
abbrev pub room_checks : ℕ → ℕ → List Check
room_checks n room = (ltb room n, Room, 0) ∷ []

-- into `room` places: the common and the free period are returned, the free schedule fills the first n places
unfoldable pub freeing : List ℕ → ℕ → Outcome
freeing ws room =
    answered (list_checks ws ++ room_checks (registers ws) room)
    (done (common (pairs ws) ∷ free_period (registers ws) (pairs ws) ∷ []) (free_schedule (registers ws) (pairs ws)))

-- the periods, or a refusal with its place
abbrev pub Freed : Type 0
Freed = Result Periods Refused

-- the number and values of each case of the answer
unfoldable pub free_reply : Freed → Reply
free_reply (Ok p) = numbers (p.common ∷ p.free ∷ [])
free_reply (Err r) = refusal_of r

-- the call with the words ws and a buffer that held `was` and holds `now`
pub record FreeAs (ws was now : List ℕ) (r : Freed) : Type 0 where
  pub reply : free_reply r ≡ reply_of (freeing ws (length was))
  pub stored : now ≡ buffer_after (freeing ws (length was)) was
  -- no rival beats the free period returned and the schedule in the first n places
  pub unbeaten : (p : Periods) → r ≡ Ok p → UnbeatenFree (registers ws) (pairs ws) p.free (take (registers ws) now)
  -- that schedule, brought to a check at the free period, passes
  pub passes : (p : Periods) → r ≡ Ok p → Passes ws p.free (take (registers ws) now)

-- a usable list with its counts, and a buffer with a place for each register
pub record Roomy (ws : List ℕ) (n count : ℕ) (buffer : List ℕ) : Type 0 where
  pub list : UsableList ws n count
  pub room : n ≤ length buffer

-- the free period, with the free schedule in the first places of the buffer
pub record FreeIn (ws was now : List ℕ) (r : ℕ) : Type 0 where
  pub period : r ≡ free_period (registers ws) (pairs ws)
  pub places : now ≡ over (free_schedule (registers ws) (pairs ws)) was
