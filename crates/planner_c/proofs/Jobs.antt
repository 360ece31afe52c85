-- Each job's answers can be told: its refusals have numbers above 0, its results at most eight values, and the numbers give the answer.
-- So a caller has the job's record of the answer read from status and reply (`promised-read` of `Apart` with a `Telling` from here).
use Prim.Native.Nat.{ℕ, ◌<◌, ◌≤◌}
use mathlib.Core.Bool.{Bool, true, false, cond}
use mathlib.Core.List.{List, [], ◌∷◌}
use mathlib.Core.Path.{◌≡◌, refl, ap}
use native.Mathlib.Omega.{arith}
use lib.Dec.{eqb}
use lib.ListN.{length, get_or}
use Rattle.std.specs.Prelude.{None, Some, Ok, Err}
use Rattle.timing.proofs.MarginLaws.{size-mag}
use Rattle.refusals.specs.Checks.{Check, Fault, number_of, first_fault}
use Rattle.refusals.specs.declared.Refusal.{Refusal}
use Rattle.refusals.specs.declared.Refusal.TheVariants.{Scratch, Room, Call, Length, Size, Word, Register, Delay, Crossed, Sum}
use Rattle.refusals.specs.declared.Refusal.TheVariants.{NoNeeds, Hold as HoldRefused, Order, Unlike, Pairs}
use Rattle.refusals.specs.declared.Refused.{Refused}
use Rattle.refusals.specs.Reply.{Reply, Outcome, done, reply_of, unless, answered}
use Rattle.list_format.specs.Lists.{registers, pairs}
use Rattle.list_format.specs.Read.{Reading, reading, read_reply}
use Rattle.list_format.specs.Write.{Writing, writing_by, writing, write_reply}
use Rattle.list_format.specs.RoundTrip.{ReadAs, WrittenAs}
use Rattle.converter.specs.Convert.{Converting, converting, convert_reply, ConvertedAs}
use Rattle.words.specs.Signed.{signed_word, signed_of}
use Rattle.words.proofs.SignedLaws.{signed_back}
use Rattle.checker.specs.Check.{Answer, checking, answer_for, rule_number, smallest_numbers, check_values, check_reply, reported, IsSmallest, CheckedAs}
use Rattle.checker.specs.declared.Rule.{Rule}
use Rattle.checker.specs.declared.Rule.TheVariants.{Setup, Hold}
use Rattle.checker.specs.declared.Smallest.{Smallest}
use Rattle.checker.specs.declared.Checking.{Checking}
use Rattle.checker.specs.declared.Checking.TheVariants.{NoPairs, Admissible, Broken}
use Rattle.free_schedule.specs.FreeCall.{Freed, freeing, free_reply, FreeAs}
use Rattle.split_laws.specs.Split.{Found, first_split}
use Rattle.split.specs.Splitting.{Splitting, splitting, split_outcome, split_reply, SplitAs}
use Rattle.planner.specs.PlanCall.{Planning, planning, plan_reply, PlanAs}
use Rattle.plan_laws.specs.Plan.{two_works}
use Rattle.chain_laws.specs.Chains.{Chains}
use Rattle.blocking.specs.Blocking.{Reason, blocked_by, why_not, why_outcome, why_reply, WhyAs}
use Rattle.planner_c.specs.Coded.{result_status, value_places, Coded, AnswerCoded}
use Rattle.planner_c.proofs.ToldLaws.{coded-reply}
use Rattle.planner_c.proofs.Apart.{Tellable, reply_from, answer_by, Telling, telling, promised-read}

-- ---- a refusal from its number, which is above 0

number-some : (r : Refusal) → 0 < number_of r
unfolding number_of
number-some Scratch = omega arith
number-some Room = omega arith
number-some Call = omega arith
number-some Length = omega arith
number-some Size = omega arith
number-some Word = omega arith
number-some Register = omega arith
number-some Delay = omega arith
number-some Crossed = omega arith
number-some Sum = omega arith
number-some NoNeeds = omega arith
number-some HoldRefused = omega arith
number-some Order = omega arith
number-some Unlike = omega arith
number-some Pairs = omega arith

unfoldable pub refusal_by : ℕ → Refusal
refusal_by number =
    cond (eqb number 1) Scratch
    (cond (eqb number 2) Room
    (cond (eqb number 3) Call
    (cond (eqb number 11) Length
    (cond (eqb number 12) Size
    (cond (eqb number 13) Word
    (cond (eqb number 14) Register
    (cond (eqb number 15) Delay
    (cond (eqb number 16) Crossed
    (cond (eqb number 17) Sum
    (cond (eqb number 18) NoNeeds
    (cond (eqb number 19) HoldRefused
    (cond (eqb number 20) Order (cond (eqb number 21) Unlike Pairs)))))))))))))

refusal-known : (r : Refusal) → refusal_by (number_of r) ≡ r
unfolding number_of refusal_by
refusal-known Scratch = refl
refusal-known Room = refl
refusal-known Call = refl
refusal-known Length = refl
refusal-known Size = refl
refusal-known Word = refl
refusal-known Register = refl
refusal-known Delay = refl
refusal-known Crossed = refl
refusal-known Sum = refl
refusal-known NoNeeds = refl
refusal-known HoldRefused = refl
refusal-known Order = refl
refusal-known Unlike = refl
refusal-known Pairs = refl

abbrev pub refused_by : ℕ → ℕ → Refused
refused_by number place = record { refusal = refusal_by number; place = place }

refused-known : (r : Refused) → refused_by (number_of r.refusal) r.place ≡ r
refused-known r = rw (refusal-known r.refusal)

unless-told : (f : Fault) (o : Outcome) → Tellable (reply_of o) → Tellable (reply_of (unless f o))
unfolding unless reply_of Tellable
unless-told (Ok u) o t = t
unless-told (Err r) o t = number-some r.refusal

answered-told : (cs : List Check) (o : Outcome) → Tellable (reply_of o) → Tellable (reply_of (answered cs o))
answered-told cs o t = unless-told (first_fault cs) o t

done-told : (xs ys : List ℕ) → length xs ≤ value_places → Tellable (reply_of (done xs ys))
unfolding Tellable reply_of
done-told xs ys h = h

-- ---- each job

pub read_told : (ws : List ℕ) (room : ℕ) → Tellable (reply_of (reading ws room))
unfolding reading
read_told ws room = answered-told _ _ (done-told _ _ (omega arith))

pub write-told : (n : ℕ) (xs ys : List ℕ) (room : ℕ) → Tellable (reply_of (writing n xs ys room))
unfolding writing_by
write-told n xs ys room = answered-told _ _ (done-told _ _ (omega arith))

pub convert-told : (ws : List ℕ) (room : ℕ) → Tellable (reply_of (converting ws room))
unfolding converting
convert-told ws room = answered-told _ _ (done-told _ _ (omega arith))

few : (r : Checking) → length (check_values r) ≤ value_places
unfolding check_values smallest_numbers
few NoPairs = omega arith
few (Admissible x) = omega arith
few (Broken k rule x) = omega arith

pub check-told : (ws : List ℕ) (t : ℕ) (s : List ℕ) → Tellable (reply_of (checking ws t s))
unfolding checking
check-told ws t s = answered-told _ _ (done-told _ _ (few (answer_for ws t s)))

pub free-told : (ws : List ℕ) (room : ℕ) → Tellable (reply_of (freeing ws room))
unfolding freeing
free-told ws room = answered-told _ _ (done-told _ _ (omega arith))

shown-told : (offset : ℕ) (f : Found) → Tellable (reply_of (split_outcome offset f))
unfolding split_outcome
shown-told offset Found.nothing = done-told _ _ (omega arith)
shown-told offset (Found.found c) = done-told _ _ (omega arith)

pub split-told : (ws : List ℕ) (period offset room spare : ℕ) → Tellable (reply_of (splitting ws period offset room spare))
unfolding splitting
split-told ws period offset room spare = answered-told _ _ (shown-told offset (first_split (registers ws) period offset (pairs ws)))

pub plan-told : (ws : List ℕ) (room spare : ℕ) → Tellable (reply_of (planning ws room spare))
unfolding planning
plan-told ws room spare = answered-told _ _ (done-told _ _ (omega arith))

reason-told : (yes : Bool) (x : Chains) → Tellable (reply_of (why_outcome yes x))
unfolding why_outcome
reason-told true x = done-told _ _ (omega arith)
reason-told false x = done-told _ _ (omega arith)

pub why-told : (ws : List ℕ) (period room spare : ℕ) (x : Chains) → Tellable (reply_of (why_not ws period room spare x))
unfolding why_not
why-told ws period room spare x = answered-told _ _ (reason-told (two_works (registers ws) (pairs ws) period) x)

-- ---- the answer from its numbers, and what a caller reads

unfoldable pub read_answer : Reply → Reading
read_answer = answer_by (λ number place. Err (refused_by number place)) (λ xs. Ok (record { registers = get_or xs 0 0; pairs = get_or xs 1 0 }))

read-known : (a : Reading) → read_answer (read_reply a) ≡ a
unfolding read_reply read_answer answer_by
read-known (Ok counts) = refl
read-known (Err r) = ap Err (refused-known r)

pub read-telling : {ws was now : List ℕ} → Telling read_reply read_answer (ReadAs ws was now)
read-telling {ws} {was} = telling (λ a p. read-known a) (read_told ws (length was)) (λ a p. p.reply)

unfoldable pub write_answer : Reply → Writing
write_answer = answer_by (λ number place. Err (refused_by number place)) (λ xs. Ok (get_or xs 0 0))

write-known : (a : Writing) → write_answer (write_reply a) ≡ a
unfolding write_reply write_answer answer_by
write-known (Ok count) = refl
write-known (Err r) = ap Err (refused-known r)

pub write-telling : {n : ℕ} {xs ys was now : List ℕ} → Telling write_reply write_answer (WrittenAs n xs ys was now)
write-telling {n} {xs} {ys} {was} = telling (λ a p. write-known a) (write-told n xs ys (length was)) (λ a p. p.reply)

unfoldable pub convert_answer : Reply → Converting
convert_answer = answer_by (λ number place. Err (refused_by number place)) (λ xs. Ok (get_or xs 0 0))

convert-known : (a : Converting) → convert_answer (convert_reply a) ≡ a
unfolding convert_reply convert_answer answer_by
convert-known (Ok count) = refl
convert-known (Err r) = ap Err (refused-known r)

pub convert-telling : {ws was now : List ℕ} → Telling convert_reply convert_answer (ConvertedAs ws was now)
convert-telling {ws} {was} = telling (λ a p. convert-known a) (convert-told ws (length was)) (λ a p. p.reply)

unfoldable pub rule_of : ℕ → Rule
rule_of n = cond (eqb n 0) Setup Hold

rule-known : (rule : Rule) → rule_of (rule_number rule) ≡ rule
unfolding rule_number rule_of
rule-known Setup = refl
rule-known Hold = refl

-- the smallest margin from the first three values
abbrev pub smallest_of : ℕ → ℕ → ℕ → Smallest
smallest_of w k rule = record { margin = signed_of w; pair = k; rule = rule_of rule }

-- nothing is lost of a margin that is promised
smallest-known : {ws : List ℕ} {t : ℕ} {s : List ℕ} (x : Smallest) → IsSmallest ws t s x
    → smallest_of (signed_word x.margin) x.pair (rule_number x.rule) ≡ x
smallest-known x is = rw (signed_back x.margin (omega (arith, size-mag x.margin is.within)), rule-known x.rule)

unfoldable pub check_answer : Reply → Answer
check_answer = answer_by (λ number place. Err (refused_by number place)) (λ xs.
    let x : Smallest = smallest_of (get_or xs 0 0) (get_or xs 1 0) (get_or xs 2 0) in
    Ok (cond (eqb (length xs) 0) NoPairs (cond (eqb (length xs) 3) (Admissible x) (Broken (get_or xs 3 0) (rule_of (get_or xs 4 0)) x))))

check-known : {ws : List ℕ} {t : ℕ} {s : List ℕ} (a : Answer) → CheckedAs ws t s a → check_answer (check_reply a) ≡ a
unfolding check_reply check_values smallest_numbers check_answer answer_by reported
check-known (Ok NoPairs) p = refl
check-known (Ok (Admissible x)) p = ap (λ y. Ok (Admissible y)) (smallest-known x p.margin.0)
check-known (Ok (Broken k rule x)) p = rw (smallest-known x p.margin.0, rule-known rule)
check-known (Err r) p = ap Err (refused-known r)

pub check-telling : {ws : List ℕ} {t : ℕ} {s : List ℕ} → Telling check_reply check_answer (CheckedAs ws t s)
check-telling {ws} {t} {s} = telling check-known (check-told ws t s) (λ a p. p.reply)

unfoldable pub free_answer : Reply → Freed
free_answer = answer_by (λ number place. Err (refused_by number place)) (λ xs. Ok (record { common = get_or xs 0 0; free = get_or xs 1 0 }))

free-known : (a : Freed) → free_answer (free_reply a) ≡ a
unfolding free_reply free_answer answer_by
free-known (Ok p) = refl
free-known (Err r) = ap Err (refused-known r)

pub free-telling : {ws was now : List ℕ} → Telling free_reply free_answer (FreeAs ws was now)
free-telling {ws} {was} = telling (λ a p. free-known a) (free-told ws (length was)) (λ a p. p.reply)

unfoldable pub split_answer : Reply → Splitting
split_answer = answer_by (λ number place. Err (refused_by number place)) (λ xs. Ok (cond (eqb (get_or xs 0 0) 0) false true))

split-known : (a : Splitting) → split_answer (split_reply a) ≡ a
unfolding split_reply split_answer answer_by
split-known (Ok true) = refl
split-known (Ok false) = refl
split-known (Err r) = ap Err (refused-known r)

pub split-telling : {ws : List ℕ} {period offset : ℕ} {answer answer' scratch scratch' : List ℕ}
    → Telling split_reply split_answer (SplitAs ws period offset answer answer' scratch scratch')
split-telling {ws} {period} {offset} {answer} {scratch = scratch} =
    telling (λ a p. split-known a) (split-told ws period offset (length answer) (length scratch)) (λ a p. p.reply)

unfoldable pub plan_answer : Reply → Planning
plan_answer = answer_by (λ number place. Err (refused_by number place))
    (λ xs. Ok (record { common = get_or xs 0 0; free = get_or xs 1 0; two = get_or xs 2 0; offset = get_or xs 3 0 }))

plan-known : (a : Planning) → plan_answer (plan_reply a) ≡ a
unfolding plan_reply plan_answer answer_by
plan-known (Ok p) = refl
plan-known (Err r) = ap Err (refused-known r)

pub plan-telling : {ws answer answer' scratch scratch' : List ℕ} → Telling plan_reply plan_answer (PlanAs ws answer answer' scratch scratch')
plan-telling {ws} {answer} {scratch = scratch} = telling (λ a p. plan-known a) (plan-told ws (length answer) (length scratch)) (λ a p. p.reply)

unfoldable pub why_answer : Reply → Reason
why_answer = answer_by (λ number place. Err (refused_by number place))
    (λ xs. Ok (cond (eqb (get_or xs 0 0) 0) None (Some (blocked_by (get_or xs 1 0) (get_or xs 2 0) (get_or xs 3 0)))))

why-known : (a : Reason) → why_answer (why_reply a) ≡ a
unfolding why_reply why_answer answer_by
why-known (Ok None) = refl
why-known (Ok (Some b)) = refl
why-known (Err r) = ap Err (refused-known r)

-- whichever chains are shown
pub why-telling : {ws : List ℕ} {period : ℕ} {answer answer' scratch scratch' : List ℕ}
    → Telling why_reply why_answer (WhyAs ws period answer answer' scratch scratch')
why-telling {ws} {period} {answer} {scratch = scratch} = record {
  known = λ a p. why-known a;
  tellable = λ a p. rw p.reply (why-told ws period (length answer) (length scratch) p.chains);
}

-- ---- for one, what a caller of the plan has

module _ {ws answer answer' scratch scratch' : List ℕ} where
  -- the numbers are those of the definition, for every input
  pub plan-numbers : {r : ℕ} {reply : List ℕ} → AnswerCoded plan_reply (PlanAs ws answer answer' scratch scratch') r reply
      → Coded (reply_of (planning ws (length answer) (length scratch))) r reply
  plan-numbers w = coded-reply w w.promised.reply

  -- who is told a result of four values has the job's record of these
  pub plan-read : {common free two offset : ℕ}
      → AnswerCoded plan_reply (PlanAs ws answer answer' scratch scratch') result_status
      (4 ∷ common ∷ free ∷ two ∷ offset ∷ 0 ∷ 0 ∷ 0 ∷ 0 ∷ [])
      → PlanAs ws answer answer' scratch scratch' (Ok (record { common = common; free = free; two = two; offset = offset }))
  unfolding reply_from plan_answer answer_by
  plan-read w = promised-read plan-telling w

-- ---- and of a check: a margin with its sign

module _ {ws : List ℕ} {t : ℕ} {s : List ℕ} where
  pub check-read : {w k rule : ℕ} → AnswerCoded check_reply (CheckedAs ws t s) result_status (3 ∷ w ∷ k ∷ rule ∷ 0 ∷ 0 ∷ 0 ∷ 0 ∷ 0 ∷ [])
      → CheckedAs ws t s (Ok (Admissible (smallest_of w k rule)))
  unfolding reply_from check_answer answer_by
  check-read w = promised-read check-telling w

-- ---- and of the reason for a period: chains that block it

module _ {ws : List ℕ} {period : ℕ} {answer answer' scratch scratch' : List ℕ} where
  pub why-read : {register first second : ℕ}
      → AnswerCoded why_reply (WhyAs ws period answer answer' scratch scratch') result_status
      (4 ∷ 1 ∷ register ∷ first ∷ second ∷ 0 ∷ 0 ∷ 0 ∷ 0 ∷ [])
      → WhyAs ws period answer answer' scratch scratch' (Ok (Some (blocked_by register first second)))
  unfolding reply_from why_answer answer_by
  why-read w = promised-read why-telling w

-- ---- and of the converter: the list in the first places stands for the old one

module _ {ws was now : List ℕ} where
  pub convert-read : {count : ℕ}
      → AnswerCoded convert_reply (ConvertedAs ws was now) result_status (1 ∷ count ∷ 0 ∷ 0 ∷ 0 ∷ 0 ∷ 0 ∷ 0 ∷ 0 ∷ [])
      → ConvertedAs ws was now (Ok count)
  unfolding reply_from convert_answer answer_by
  convert-read w = promised-read convert-telling w
