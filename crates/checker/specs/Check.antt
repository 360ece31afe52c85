-- Checking a schedule against a delay list: the margins of its pairs, the smallest of all, which pair breaks a rule first, and what the call
-- comes to.
use Rattle.std.specs.Prelude.{ℕ, ◌+◌, ◌*◌, ◌≤◌, ◌<◌, Bool, true, false, not, ◌&&◌, cond, List, [], ◌∷◌, ◌++◌, ◌≡◌, ltb, eqb, ℤ, nat_abs, length, ◌≤ℤ◌, ◌<ℤ◌}
use Rattle.std.specs.Prelude.{Result, Ok, Err}
use Rattle.std.specs.List.{list_any}
use Rattle.std.specs.Int.Signed.{non_neg, lt_z}
use Rattle.timing.specs.Rules.{setup_margin, hold_margin, time, admissible, Each}
use Rattle.timing.specs.Limits.{max_period, max_timing}
use Rattle.words.specs.Signed.{signed_word}
use Rattle.search.specs.Search.{least}
use Rattle.search.specs.Lowest.{lowest}
use Rattle.refusals.specs.Checks.{Check, first_fault, no_fault}
use Rattle.refusals.specs.declared.Refused.{Refused}
use Rattle.refusals.specs.declared.Refusal.TheVariants.{Call}
use Rattle.refusals.specs.Reply.{Reply, refusal_of, numbers, Outcome, done, reply_of, answered}
use Rattle.list_format.specs.Lists.{registers, pair_count, pair_at, pairs, differ, list_checks}
use Rattle.checker.specs.declared.Rule.{Rule}
use Rattle.checker.specs.declared.Rule.TheVariants.{Setup, Hold}
use Rattle.checker.specs.declared.Smallest.{Smallest}
use Rattle.checker.specs.declared.Walk.{Walk}
use Rattle.checker.specs.declared.Checking.{Checking}
use Rattle.checker.specs.declared.Checking.TheVariants.{NoPairs, Admissible, Broken}

-- ---- the margins, for the list ws, the period t and the schedule s

-- the margin of a rule of pair k
unfoldable pub margin_at : List ℕ → ℕ → List ℕ → ℕ → Rule → ℤ
margin_at ws t s k Setup = setup_margin (pair_at ws k) t (time s (pair_at ws k).launch) (time s (pair_at ws k).capture)
margin_at ws t s k Hold = hold_margin (pair_at ws k) (time s (pair_at ws k).launch) (time s (pair_at ws k).capture)

-- the rule of pair k with the smaller margin; setup if both are the same
unfoldable pub low_rule : List ℕ → ℕ → List ℕ → ℕ → Rule
low_rule ws t s k = cond (lt_z (margin_at ws t s k Hold) (margin_at ws t s k Setup)) Hold Setup

-- the smaller margin of pair k
abbrev pub low_at : List ℕ → ℕ → List ℕ → ℕ → ℤ
low_at ws t s k = margin_at ws t s k (low_rule ws t s k)

-- with the pair and the rule
abbrev pub smallest_at : List ℕ → ℕ → List ℕ → ℕ → Smallest
smallest_at ws t s k = record { margin = low_at ws t s k; pair = k; rule = low_rule ws t s k }

-- the smallest margin of all: of the first pair that has it, setup before hold
unfoldable pub smallest : List ℕ → ℕ → List ℕ → Smallest
smallest ws t s = smallest_at ws t s (lowest (low_at ws t s) (pair_count ws))

-- ---- the first pair that breaks a rule

-- pair k meets both rules: no margin is negative
unfoldable pub met_at : List ℕ → ℕ → List ℕ → ℕ → Bool
met_at ws t s k = non_neg (margin_at ws t s k Setup) && non_neg (margin_at ws t s k Hold)

-- the first pair that does not; m if each does
unfoldable pub first_broken : List ℕ → ℕ → List ℕ → ℕ
first_broken ws t s = least (λ k. not (met_at ws t s k)) 0 (pair_count ws)

-- of a pair that does not: setup if it breaks that, else hold
unfoldable pub broken_rule : List ℕ → ℕ → List ℕ → ℕ → Rule
broken_rule ws t s k = cond (non_neg (margin_at ws t s k Setup)) Hold Setup

-- ---- the answer for an accepted list, and its numbers

unfoldable pub answer_for : List ℕ → ℕ → List ℕ → Checking
answer_for ws t s =
    let k : ℕ = first_broken ws t s in
    let x : Smallest = smallest ws t s in
    cond (eqb (pair_count ws) 0) NoPairs (cond (ltb k (pair_count ws)) (Broken k (broken_rule ws t s k) x) (Admissible x))

unfoldable pub rule_number : Rule → ℕ
rule_number Setup = 0
rule_number Hold = 1

-- a margin, as a word of 64 bits, its pair and its rule
unfoldable pub smallest_numbers : Smallest → List ℕ
smallest_numbers x = signed_word x.margin ∷ x.pair ∷ rule_number x.rule ∷ []

-- the values of each case of the answer
unfoldable pub check_values : Checking → List ℕ
check_values NoPairs = []
check_values (Admissible x) = smallest_numbers x
check_values (Broken k rule x) = smallest_numbers x ++ (k ∷ rule_number rule ∷ [])

-- the answer, or a refusal with its place
abbrev pub Answer : Type 0
Answer = Result Checking Refused

unfoldable pub check_reply : Answer → Reply
check_reply (Ok r) = numbers (check_values r)
check_reply (Err r) = refusal_of r

-- ---- the call

-- some timing is above the limit
abbrev pub some_above : List ℕ → Bool
some_above s = list_any (λ x. ltb max_timing x) s

-- 3: the period or a timing out of range, or not a timing for each of n registers
abbrev pub timing_checks : ℕ → ℕ → List ℕ → List Check
timing_checks n t s =
    (eqb t 0, Call, 0)
    ∷ (ltb max_period t, Call, 0)
    ∷ (differ (length s) n, Call, 0)
    ∷ (some_above s, Call, 0)
    ∷ []

-- 11 to 20, then 3
abbrev pub check_checks : List ℕ → ℕ → List ℕ → List Check
check_checks ws t s = list_checks ws ++ timing_checks (registers ws) t s

-- what checking comes to; nothing is stored
unfoldable pub checking : List ℕ → ℕ → List ℕ → Outcome
checking ws t s = answered (check_checks ws t s) (done (check_values (answer_for ws t s)) [])

-- the answer is that the schedule is admissible
unfoldable pub admits : Answer → Bool
admits (Ok NoPairs) = true
admits (Ok (Admissible x)) = true
admits (Ok (Broken k rule x)) = false
admits (Err r) = false

-- the schedule s, brought to a check at the period t, is not refused and comes out admissible
pub record Passes (ws : List ℕ) (t : ℕ) (s : List ℕ) : Type 0 where
  pub accepted : first_fault (check_checks ws t s) ≡ no_fault
  pub admitted : admits (Ok (answer_for ws t s)) ≡ true

-- ---- the answer as propositions

-- the smallest margin that an answer reports, whether the schedule passes or fails
unfoldable pub reported : Answer → List Smallest
reported (Ok NoPairs) = []
reported (Ok (Admissible x)) = x ∷ []
reported (Ok (Broken k rule x)) = x ∷ []
reported (Err r) = []

-- the place of a margin among all: pair by pair, setup before hold
abbrev pub margin_place : ℕ → Rule → ℕ
margin_place k rule = 2 * k + rule_number rule

-- x is the smallest margin of all, and the first that is as small
pub record IsSmallest (ws : List ℕ) (t : ℕ) (s : List ℕ) (x : Smallest) : Type 0 where
  pub below : x.pair < pair_count ws
  pub is : x.margin ≡ margin_at ws t s x.pair x.rule
  pub smallest : (k : ℕ) (rule : Rule) → k < pair_count ws → x.margin ≤ℤ margin_at ws t s k rule
  pub first : (k : ℕ) (rule : Rule) → margin_place k rule < margin_place x.pair x.rule → x.margin <ℤ margin_at ws t s k rule
  -- its sign tells whether the schedule is admissible
  pub sign : admissible t (pairs ws) s ≡ non_neg x.margin
  pub within : nat_abs x.margin ≤ max_timing + max_period

-- the pair and the rule that an answer names as broken
unfoldable pub named : Answer → List (ℕ × Rule)
named (Ok NoPairs) = []
named (Ok (Admissible x)) = []
named (Ok (Broken k rule x)) = (k, rule) ∷ []
named (Err r) = []

-- the rule of the pair is broken, and no rule before it
pub record IsFirstBroken (ws : List ℕ) (t : ℕ) (s : List ℕ) (b : ℕ × Rule) : Type 0 where
  pub below : b.0 < pair_count ws
  pub broken : non_neg (margin_at ws t s b.0 b.1) ≡ false
  pub first : (k : ℕ) (rule : Rule) → margin_place k rule < margin_place b.0 b.1 → non_neg (margin_at ws t s k rule) ≡ true

-- the schedule s was checked against the words ws at the period t
pub record CheckedAs (ws : List ℕ) (t : ℕ) (s : List ℕ) (r : Answer) : Type 0 where
  pub reply : check_reply r ≡ reply_of (checking ws t s)
  pub answer : first_fault (check_checks ws t s) ≡ no_fault → r ≡ Ok (answer_for ws t s)
  -- only an admissible schedule passes
  pub sound : admits r ≡ true → admissible t (pairs ws) s ≡ true
  -- every admissible schedule passes, unless the call is refused
  pub complete : admissible t (pairs ws) s ≡ true → first_fault (check_checks ws t s) ≡ no_fault → admits r ≡ true
  pub margin : Each (IsSmallest ws t s) (reported r)
  pub broken : Each (IsFirstBroken ws t s) (named r)
  -- no margin is reported exactly of a list without pairs, unless the call is refused
  pub none : r ≡ Ok NoPairs → pair_count ws ≡ 0
  pub some : first_fault (check_checks ws t s) ≡ no_fault → pair_count ws ≡ 0 → r ≡ Ok NoPairs

-- ---- the walk over the pairs

-- the walk w with one pair more, whose smaller margin is x
unfoldable pub walked_on : Walk → Smallest → Walk
walked_on w x =
    let first : ℕ = cond (non_neg w.smallest.margin) x.pair w.broken in
    cond (lt_z x.margin w.smallest.margin) (record { smallest = x; broken = first }) w

-- the walk w has come to k pairs
pub record Walked (ws : List ℕ) (t : ℕ) (s : List ℕ) (k : ℕ) (w : Walk) : Type 0 where
  pub smallest : w.smallest ≡ smallest_at ws t s (lowest (low_at ws t s) k)
  -- a negative margin was met
  pub broken : non_neg w.smallest.margin ≡ false → w.broken ≡ first_broken ws t s
