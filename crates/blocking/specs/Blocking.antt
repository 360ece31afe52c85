-- Why no split works at a period, whatever its offset: what a call comes to.
use Rattle.std.specs.Prelude.{ℕ, ◌-◌, ◌*◌, ◌≤◌, ◌<◌, Bool, true, false, List, [], ◌∷◌, ◌++◌, ◌≡◌, ltb, eqb, length, drop}
use Rattle.std.specs.Prelude.{Option, Some, None, Result, Ok, Err}
use Rattle.timing.specs.Limits.{max_period, scratch_places}
use Rattle.buffers.specs.Over.{over}
use Rattle.refusals.specs.Checks.{Check, no_fault, first_fault}
use Rattle.refusals.specs.declared.Refusal.TheVariants.{Scratch, Room, Call}
use Rattle.refusals.specs.declared.Refused.{Refused}
use Rattle.refusals.specs.Reply.{Reply, refusal_of, numbers, Outcome, done, reply_of, buffer_after, scratch_after, answered}
use Rattle.list_format.specs.Lists.{registers, pair_count, pairs, list_checks}
use Rattle.free_laws.specs.Free.{common}
use Rattle.split_laws.specs.Split.{works}
use Rattle.plan_laws.specs.Plan.{two_works}
use Rattle.plan_laws.specs.Unbeaten.{RivalSplit}
use Rattle.chain_laws.specs.Chains.{Chains, Blocks}
use Rattle.propagate.specs.Store.{flags_from, Recorded, Lent}
use Rattle.forced_late.specs.Forest.{Forest, AllForce, IsSeeded}
use Rattle.blocking.specs.Paths.{chains_of}
use Rattle.blocking.specs.declared.Blocked.{Blocked}

-- the places that the answer takes, for each register
abbrev pub per_chain : ℕ
per_chain = 4

-- 3: the period out of range. 2: an answer buffer of fewer than 4n places. 1: too little scratch
abbrev pub why_call_checks : ℕ → ℕ → ℕ → ℕ → ℕ → List Check
why_call_checks n m period room spare =
    (eqb period 0, Call, 0)
    ∷ (ltb max_period period, Call, 0)
    ∷ (ltb room (per_chain * n), Room, 0)
    ∷ (ltb spare (scratch_places n m), Scratch, 0)
    ∷ []

-- 11 to 20, then 3, 2, 1
abbrev pub why_checks : List ℕ → ℕ → ℕ → ℕ → List Check
why_checks ws period room spare = list_checks ws ++ why_call_checks (registers ws) (pair_count ws) period room spare

-- a split works: 0 is returned, and nothing is stored; none works: 1, the register and the lengths of the two chains are returned, and
-- the steps of the first chain are stored, then those of the second
unfoldable pub why_outcome : Bool → Chains → Outcome
why_outcome true x = done (0 ∷ []) []
why_outcome false x = done (1 ∷ x.register ∷ length x.first ∷ length x.second ∷ []) (x.first ++ x.second)

-- what a call comes to that shows the chains x where nothing works, with `room` places for the answer and `spare` places of scratch
unfoldable pub why_not : List ℕ → ℕ → ℕ → ℕ → Chains → Outcome
why_not ws period room spare x =
    answered (why_checks ws period room spare) (why_outcome (two_works (registers ws) (pairs ws) period) x)

-- what a call tells: that some split works, or what blocks the period, or a refusal with its place
abbrev pub Reason : Type 0
Reason = Result (Option Blocked) Refused

abbrev pub blocked_by : ℕ → ℕ → ℕ → Blocked
blocked_by register first second = record { register = register; first = first; second = second }

-- the number and values of each case of the answer
unfoldable pub why_reply : Reason → Reply
why_reply (Ok None) = numbers (0 ∷ [])
why_reply (Ok (Some b)) = numbers (1 ∷ b.register ∷ b.first ∷ b.second ∷ [])
why_reply (Err r) = refusal_of r

-- a split of n registers that works at the period with the offset that brings it up to the common one
pub record WorkingAt (ws : List ℕ) (period : ℕ) : Type 0 where
  pub split : List Bool
  pub size : length split ≡ registers ws
  pub works : works period (common (pairs ws) - period) (pairs ws) split ≡ true

-- what is shown blocks the period: the chains x stand at the register, with these lengths, and no rival split works
pub record BlockedBy (ws : List ℕ) (period : ℕ) (x : Chains) (register first second : ℕ) : Type 0 where
  pub register_is : register ≡ x.register
  pub first_is : first ≡ length x.first
  pub second_is : second ≡ length x.second
  -- the chains are sound, at the offset common less period, or 0 if that is negative
  pub sound : Blocks (registers ws) period (common (pairs ws) - period) (pairs ws) x
  -- no split with any offset works, whole or fractional
  pub none : (p q : ℕ) (c : List Bool) → RivalSplit (registers ws) (pairs ws) period p q c → ⊥

-- what a call promises: what is returned, and each place of both buffers, for every input. Which chains are shown is left free
pub record WhyAs (ws : List ℕ) (period : ℕ) (answer answer' scratch scratch' : List ℕ) (r : Reason) : Type 0 where
  pub chains : Chains
  pub reply : why_reply r ≡ reply_of (why_not ws period (length answer) (length scratch) chains)
  pub stored : answer' ≡ buffer_after (why_not ws period (length answer) (length scratch) chains) answer
  pub left : scratch'
      ≡ scratch_after (why_not ws period (length answer) (length scratch) chains) (scratch_places (registers ws) (pair_count ws)) scratch
  -- workable: there is a split
  pub workable : r ≡ Ok None → WorkingAt ws period
  -- blocked: there is none, and the chains show why
  pub blocked : (register first second : ℕ) → r ≡ Ok (Some (blocked_by register first second)) → BlockedBy ws period chains register first second

-- ---- on the way

-- the scratch S' has the forest of the registers forced late, and the broken choices at the period with the offset that brings it up to the
-- common one; what lies behind is as it was in S
pub record Ready (ws : List ℕ) (period n : ℕ) (S S' : List ℕ) : Type 0 where
  pub size : length S' ≡ length S
  pub rest : drop (scratch_places n (pair_count ws)) S' ≡ drop (scratch_places n (pair_count ws)) S
  pub flags : Recorded period (common (pairs ws) - period) ws (drop (flags_from n) S')
  pub forest : Forest ws n S'
  pub seeded : (k : ℕ) → k < pair_count ws → IsSeeded ws n k S'
  pub closed : AllForce ws n S'

-- the chains of pair k are stored
pub record ChainsIn (ws : List ℕ) (n k : ℕ) (answer answer' S S' : List ℕ) (b : Blocked) : Type 0 where
  pub told : b ≡ blocked_by (chains_of ws n S k).register (length (chains_of ws n S k).first) (length (chains_of ws n S k).second)
  pub stored : answer' ≡ over ((chains_of ws n S k).first ++ (chains_of ws n S k).second) answer
  pub size : length S' ≡ length S
  pub rest : drop (scratch_places n (pair_count ws)) S' ≡ drop (scratch_places n (pair_count ws)) S

-- a call that no refusal fits, of a list with n registers and m pairs
pub record WhyAllowed (ws : List ℕ) (period n m : ℕ) (answer scratch : List ℕ) : Type 0 where
  pub none : first_fault (why_checks ws period (length answer) (length scratch)) ≡ no_fault
  pub lent : Lent ws n m scratch
  pub room : per_chain * n ≤ length answer
  pub from : 1 ≤ period
  pub upto : period ≤ max_period
