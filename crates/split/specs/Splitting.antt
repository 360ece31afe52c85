-- Whether some split works at a period and an offset, and the first one: what a call comes to.
use Rattle.std.specs.Prelude.{ℕ, ◌≤◌, Bool, true, false, ◌⊎◌, List, [], ◌∷◌, ◌++◌, ◌≡◌, ltb, eqb, length, take, Result, Ok, Err}
use Rattle.timing.specs.Rules.{Each, admissible}
use Rattle.timing.specs.Limits.{max_period, max_offset, scratch_places}
use Rattle.refusals.specs.Checks.{Check, first_fault, no_fault}
use Rattle.refusals.specs.declared.Refused.{Refused}
use Rattle.refusals.specs.Reply.{Reply, refusal_of, numbers, Outcome, done, reply_of, buffer_after, scratch_after, answered}
use Rattle.list_format.specs.Lists.{registers, pair_count, pairs, list_checks}
use Rattle.split_laws.specs.Split.{Found, nothing, found, timings, first_split}
use Rattle.checker.specs.Check.{Passes}
use Rattle.propagate.specs.Store.{Lent}
use Rattle.refusals.specs.declared.Refusal.TheVariants.{Call, Room, Scratch}

-- 3: period or offset out of range. 2: an answer buffer of fewer than n places. 1: too little scratch
abbrev pub split_call_checks : ℕ → ℕ → ℕ → ℕ → ℕ → ℕ → List Check
split_call_checks n m period offset room spare =
    (eqb period 0, Call, 0)
    ∷ (ltb max_period period, Call, 0)
    ∷ (ltb max_offset offset, Call, 0)
    ∷ (ltb room n, Room, 0)
    ∷ (ltb spare (scratch_places n m), Scratch, 0)
    ∷ []

-- 11 to 20, then 3, 2, 1
abbrev pub split_checks : List ℕ → ℕ → ℕ → ℕ → ℕ → List Check
split_checks ws period offset room spare = list_checks ws ++ split_call_checks (registers ws) (pair_count ws) period offset room spare

-- a split: 1 is returned, and its timings are stored; none: 0 is returned, and nothing is stored
unfoldable pub split_outcome : ℕ → Found → Outcome
split_outcome offset nothing = done (0 ∷ []) []
split_outcome offset (found c) = done (1 ∷ []) (timings offset c)

-- the first split at a period and an offset, with `room` places for the answer and `spare` places of scratch
unfoldable pub splitting : List ℕ → ℕ → ℕ → ℕ → ℕ → Outcome
splitting ws period offset room spare =
    answered (split_checks ws period offset room spare) (split_outcome offset (first_split (registers ws) period offset (pairs ws)))

-- whether a split works, or a refusal with its place
abbrev pub Splitting : Type 0
Splitting = Result Bool Refused

-- the number and values of each case of the answer
unfoldable pub split_reply : Splitting → Reply
split_reply (Ok true) = numbers (1 ∷ [])
split_reply (Ok false) = numbers (0 ∷ [])
split_reply (Err r) = refusal_of r

-- the timings x of n registers are those of a split that works at the period and the offset
pub record WorksAs (ws : List ℕ) (period offset : ℕ) (x : List ℕ) : Type 0 where
  -- a timing for each register, early or late
  pub size : length x ≡ registers ws
  pub two : Each (λ a. (a ≡ 0) ⊎ (a ≡ offset)) x
  -- every rule is met
  pub meets : admissible period (pairs ws) x ≡ true
  -- brought to a check at the period, they pass
  pub passes : Passes ws period x

-- what a call promises: what is returned, and each place of both buffers, for every input
pub record SplitAs (ws : List ℕ) (period offset : ℕ) (answer answer' scratch scratch' : List ℕ) (r : Splitting) : Type 0 where
  pub reply : split_reply r ≡ reply_of (splitting ws period offset (length answer) (length scratch))
  pub stored : answer' ≡ buffer_after (splitting ws period offset (length answer) (length scratch)) answer
  pub left : scratch'
      ≡ scratch_after (splitting ws period offset (length answer) (length scratch)) (scratch_places (registers ws) (pair_count ws)) scratch
  -- a split handed out works
  pub works : r ≡ Ok true → WorksAs ws period offset (take (registers ws) answer')
  -- no split: no choice of early or late for n registers works
  pub none : r ≡ Ok false → (c : List Bool) → length c ≡ registers ws → admissible period (pairs ws) (timings offset c) ≡ false

-- a call that no refusal fits, of a list with n registers and m pairs
pub record SplitAllowed (ws : List ℕ) (period offset n m : ℕ) (answer scratch : List ℕ) : Type 0 where
  pub none : first_fault (split_checks ws period offset (length answer) (length scratch)) ≡ no_fault
  pub lent : Lent ws n m scratch
  pub room : n ≤ length answer
  pub from : 1 ≤ period
  pub upto : period ≤ max_period
  pub offset_in : offset ≤ max_offset
