-- A delay list is a run of 32-bit words: head, then a word of needs for each register or none at all, then three words for each pair, then
-- the end word.
-- This file says where a pair stands, which run of words is refused and why, and what an accepted one says.
use Rattle.std.specs.Prelude.{ℕ, zero, suc, ◌+◌, ◌-◌, ◌*◌, ◌^◌, ◌<◌, ◌≤◌, Bool, true, false, not, cond, ◌&&◌, List, [], ◌∷◌, ◌++◌, ◌≡◌}
use Rattle.std.specs.Prelude.{ltb, leb, eqb, length, get_or, take, Result, Ok, Err}
use Rattle.timing.specs.declared.Pair.{Pair}
use Rattle.timing.specs.Rules.{pair}
use Rattle.timing.specs.Limits.{max_registers, max_pairs, max_delay, max_need, max_period}
use Rattle.words.specs.Word.{payload_bits, kind_head, kind_pair, kind_least, kind_greatest, kind_needs, kind_end, kind_of, payload_of, checksum}
use Rattle.words.specs.Word.{head_pairs, head_registers, head_spare, launch_of, capture_of, pair_spare, hold_of, setup_of, needs_spare}
use Rattle.ordering.specs.Order.{not_above}
use Rattle.buffers.specs.Run.{run}
use Rattle.refusals.specs.Checks.{Check, first_fault, each_check, Fault}
use Rattle.refusals.specs.declared.Refused.{Refused}
use Rattle.list_format.specs.declared.Counts.{Counts}
use Rattle.refusals.specs.declared.Refusal.TheVariants.{Length, Size, Word, Register, Delay, Crossed, Sum, NoNeeds, Hold, Order}

-- ---- what the words say

abbrev pub word : List ℕ → ℕ → ℕ
word ws i = get_or ws i 0

-- n, the count of registers
abbrev pub registers : List ℕ → ℕ
registers ws = head_registers (word ws 0)

-- m, the count of pairs
abbrev pub pair_count : List ℕ → ℕ
pair_count ws = head_pairs (word ws 0)

-- how many words of needs stand after the head, by it and the word after it: one for each register if that word is one, and else none
unfoldable pub need_words_by : ℕ → ℕ → ℕ
need_words_by head second = cond (eqb (kind_of second) kind_needs) (head_registers head) 0

abbrev pub need_words : List ℕ → ℕ
need_words ws = need_words_by (word ws 0) (word ws 1)

-- the hold and the setup need of register r, 0 without a word of needs
unfoldable pub hold_at : List ℕ → ℕ → ℕ
hold_at ws r = cond (ltb r (need_words ws)) (hold_of (word ws (1 + r))) 0

unfoldable pub setup_at : List ℕ → ℕ → ℕ
setup_at ws r = cond (ltb r (need_words ws)) (setup_of (word ws (1 + r))) 0

abbrev pub two_at : List ℕ → ℕ → List ℕ
two_at ws r = hold_at ws r ∷ setup_at ws r ∷ []

-- those of all registers
abbrev pub needs_of : List ℕ → List ℕ
needs_of ws = run (two_at ws) (registers ws)

-- the place of the first of the three words of pair k, after so many words of needs; for k = m, that of the end word
abbrev pub place_by : ℕ → ℕ → ℕ
place_by needs k = 3 * k + 1 + needs

abbrev pub pair_place : List ℕ → ℕ → ℕ
pair_place ws k = place_by (need_words ws) k

-- the pair that three words make
abbrev pub pair_of : ℕ → ℕ → ℕ → Pair
pair_of p least greatest = pair (launch_of p) (capture_of p) (payload_of least) (payload_of greatest)

-- pair k as it is written in the list
abbrev pub written_at : List ℕ → ℕ → Pair
written_at ws k = pair_of (word ws (pair_place ws k)) (word ws (pair_place ws k + 1)) (word ws (pair_place ws k + 2))

-- a pair with the needs of its capture register counted in: a delay may be less by the hold, and more by the setup
abbrev pub counting : ℕ → ℕ → Pair → Pair
counting hold setup p = pair p.launch p.capture (p.least - hold) (p.greatest + setup)

abbrev pub counting_needs : List ℕ → Pair → Pair
counting_needs ws p = counting (hold_at ws p.capture) (setup_at ws p.capture) p

-- pair k of the list, as all jobs but reading and writing take it
unfoldable pub pair_at : List ℕ → ℕ → Pair
pair_at ws k = counting_needs ws (written_at ws k)

-- `left` pairs from pair k on
unfoldable pub pairs_from : List ℕ → ℕ → ℕ → List Pair
pairs_from ws k zero = []
pairs_from ws k (suc left) = pair_at ws k ∷ pairs_from ws (k + 1) left

-- all pairs of the list
abbrev pub pairs : List ℕ → List Pair
pairs ws = pairs_from ws 0 (pair_count ws)

-- the i-th pair of a walk over m pairs: up the list, or from its end if down
abbrev pub place_of : ℕ → Bool → ℕ → ℕ
place_of m down i = cond down (m - 1 - i) i

-- what is added, in 64 bits, from one place to the next
abbrev pub step_of : Bool → ℕ
step_of down = cond down (2 ^ 64 - 1) 1

-- ---- the checks, in order

abbrev pub differ : ℕ → ℕ → Bool
differ a b = not (eqb a b)

-- 11: fewer than two words. 12: the head word. 11: not as many words as the head and the word after it ask for
abbrev pub head_checks : ℕ → ℕ → ℕ → List Check
head_checks head second len =
    (ltb len 2, Length, 0)
    ∷ (differ (kind_of head) kind_head, Size, 0)
    ∷ (differ (head_spare head) 0, Size, 0)
    ∷ (eqb (head_registers head) 0, Size, 0)
    ∷ (ltb max_registers (head_registers head), Size, 0)
    ∷ (ltb max_pairs (head_pairs head), Size, 0)
    ∷ (differ len (place_by (need_words_by head second) (head_pairs head) + 1), Length, 0)
    ∷ []

-- 13: the word of needs of register r
abbrev pub need_checks : List ℕ → ℕ → List Check
need_checks ws r =
    (differ (kind_of (word ws (1 + r))) kind_needs, Word, 1 + r)
    ∷ (differ (needs_spare (word ws (1 + r))) 0, Word, 1 + r)
    ∷ (ltb max_need (hold_of (word ws (1 + r))), Word, 1 + r)
    ∷ (ltb max_need (setup_of (word ws (1 + r))), Word, 1 + r)
    ∷ []

-- whether all needs are 0
unfoldable pub no_needs : List ℕ → Bool
no_needs [] = true
no_needs (x ∷ xs) = eqb x 0 && no_needs xs

-- so many words of needs, one by one. 18: they are there, and all needs are 0
abbrev pub block_checks : List ℕ → ℕ → List Check
block_checks ws needs = each_check (need_checks ws) 0 needs ++ ((ltb 0 needs && no_needs (needs_of ws), NoNeeds, 1) ∷ [])

-- 13: the three words of a pair, of which the first stands at `at`
abbrev pub kind_checks : ℕ → ℕ → ℕ → ℕ → List Check
kind_checks p least greatest at =
    (differ (kind_of p) kind_pair, Word, at)
    ∷ (differ (pair_spare p) 0, Word, at)
    ∷ (differ (kind_of least) kind_least, Word, at + 1)
    ∷ (differ (kind_of greatest) kind_greatest, Word, at + 2)
    ∷ []

-- 14: a register not below n. 15: a delay above the limit. 16: least above greatest. 19: least below the hold of the capture register.
-- The three places are those to name for the registers, for the least and for the greatest delay
abbrev pub value_checks : ℕ → ℕ → Pair → ℕ → ℕ → ℕ → List Check
value_checks n hold p at least_at greatest_at =
    (leb n p.launch, Register, at)
    ∷ (leb n p.capture, Register, at)
    ∷ (ltb max_delay p.least, Delay, least_at)
    ∷ (ltb max_delay p.greatest, Delay, greatest_at)
    ∷ (ltb p.greatest p.least, Crossed, greatest_at)
    ∷ (ltb p.least hold, Hold, least_at)
    ∷ []

-- pair k of a list with n registers, but for its order
abbrev pub own_checks : List ℕ → ℕ → ℕ → List Check
own_checks ws n k =
    kind_checks (word ws (pair_place ws k)) (word ws (pair_place ws k + 1)) (word ws (pair_place ws k + 2)) (pair_place ws k)
    ++ value_checks n (hold_at ws (written_at ws k).capture) (written_at ws k) (pair_place ws k) (pair_place ws k + 1) (pair_place ws k + 2)

-- 20: pair k is not above the one before it, by launch and then capture; a list that is still to be ordered is not asked for this
abbrev pub order_check : Bool → (ℕ → Pair) → ℕ → ℕ → Check
order_check asked f k at = (asked && not_above f k, Order, at)

-- all checks of pair k
abbrev pub pair_checks : Bool → List ℕ → ℕ → ℕ → List Check
pair_checks asked ws n k = own_checks ws n k ++ (order_check asked (written_at ws) k (pair_place ws k) ∷ [])

-- 13 and 17: the end word, which stands at `at`
abbrev pub end_checks : List ℕ → ℕ → List Check
end_checks ws at =
    (differ (kind_of (word ws at)) kind_end, Word, at)
    ∷ (differ (payload_of (word ws at)) (checksum (take at ws)), Sum, at)
    ∷ []

-- the pairs of a list of n registers and m pairs, one by one, then the end
abbrev pub pairs_checks : Bool → List ℕ → ℕ → ℕ → List Check
pairs_checks asked ws n m = each_check (pair_checks asked ws n) 0 m ++ end_checks ws (pair_place ws m)

-- what stands after the head
abbrev pub body_checks : Bool → List ℕ → ℕ → ℕ → List Check
body_checks asked ws n m = block_checks ws (need_words ws) ++ pairs_checks asked ws n m

-- all checks, with the order asked for or not
abbrev pub checks_by : Bool → List ℕ → List Check
checks_by asked ws = head_checks (word ws 0) (word ws 1) (length ws) ++ body_checks asked ws (registers ws) (pair_count ws)

-- those of a list
abbrev pub list_checks : List ℕ → List Check
list_checks = checks_by true

-- those of a stored list in any order, which may name a pair more than once: all but 20
abbrev pub stored_checks : List ℕ → List Check
stored_checks = checks_by false

-- ---- the verdict

-- the counts of an accepted list, or the first refusal with its place
abbrev pub Verdict : Type 0
Verdict = Result Counts Refused

abbrev pub counts : ℕ → ℕ → Counts
counts n m = record { registers = n; pairs = m }

abbrev pub accepted : ℕ → ℕ → Verdict
accepted n m = Ok (counts n m)

unfoldable pub judged : List ℕ → Fault → Verdict
judged ws (Ok u) = accepted (registers ws) (pair_count ws)
judged ws (Err r) = Err r

-- the first refusal with its place, or the counts
unfoldable pub verdict_by : Bool → List ℕ → Verdict
verdict_by asked ws = judged ws (first_fault (checks_by asked ws))

abbrev pub verdict : List ℕ → Verdict
verdict = verdict_by true

-- the needs of a register: hold h and setup s
pub record NeedsIn (h s : ℕ) : Type 0 where
  pub hold : h ≤ max_need
  pub setup : s ≤ max_need

-- the values of a pair of a list with n registers, and delays up to `most`
pub record ValuesIn (most n : ℕ) (p : Pair) : Type 0 where
  pub launch : p.launch < n
  pub capture : p.capture < n
  pub order : p.least ≤ p.greatest
  pub limit : p.greatest ≤ most

-- those of a pair as it is written, with the hold of its capture register
pub record WrittenIn (n hold : ℕ) (p : Pair) : Type 0 where
  pub values : ValuesIn max_delay n p
  pub holds : hold ≤ p.least

-- an accepted list
abbrev pub IsAccepted : List ℕ → Type 0
IsAccepted ws = verdict ws ≡ accepted (registers ws) (pair_count ws)

-- an accepted list with its counts: n registers and m pairs
pub record AcceptedList (ws : List ℕ) (n m : ℕ) : Type 0 where
  pub accepted : IsAccepted ws
  pub registers_are : n ≡ registers ws
  pub pairs_are : m ≡ pair_count ws

-- ---- what the jobs take their pairs from

-- the smallest word of needs
abbrev pub first_needs : ℕ
first_needs = kind_needs * 2 ^ payload_bits

-- A list that pairs can be taken from: an accepted one, or one like it with longer delays. Its counts are in range and all its words stand
-- there; where it has a pair, only a word of needs after the head is as large as that; and each pair is in range with its needs counted in
pub record IsUsable (ws : List ℕ) : Type 0 where
  pub some : 0 < registers ws
  pub most : registers ws ≤ max_registers
  pub few : pair_count ws ≤ max_pairs
  pub size : pair_place ws (pair_count ws) < length ws
  pub second : 0 < pair_count ws → first_needs ≤ word ws 1 → need_words ws ≡ registers ws
  pub holds : (k : ℕ) → k < pair_count ws → hold_at ws (written_at ws k).capture ≤ (written_at ws k).least
  pub values : (k : ℕ) → k < pair_count ws → ValuesIn max_period (registers ws) (pair_at ws k)

-- such a list with its counts: n registers and m pairs
pub record UsableList (ws : List ℕ) (n m : ℕ) : Type 0 where
  pub usable : IsUsable ws
  pub registers_are : n ≡ registers ws
  pub pairs_are : m ≡ pair_count ws

-- pair k is one of its pairs
pub record PairIn (ws : List ℕ) (k : ℕ) : Type 0 where
  pub usable : IsUsable ws
  pub below : k < pair_count ws

-- p is pair k as it is written, with what is known of its numbers
pub record IsWritten (ws : List ℕ) (k : ℕ) (p : Pair) : Type 0 where
  pub same : p ≡ written_at ws k
  pub holds : hold_at ws p.capture ≤ p.least
  pub values : ValuesIn max_period (registers ws) (counting_needs ws p)

-- p is pair k as the jobs take it
pub record IsPair (ws : List ℕ) (k : ℕ) (p : Pair) : Type 0 where
  pub same : p ≡ pair_at ws k
  pub values : ValuesIn max_period (registers ws) p
