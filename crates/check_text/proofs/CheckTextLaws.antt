-- From what checking and scanning promise to the text that is stored: a fault in the text, a refusal, no pairs, an admissible schedule,
-- or the first pair that breaks a rule.
use Prim.Native.Nat.{ℕ, ◌≤◌}
use mathlib.Core.Bool.{false}
use mathlib.Core.List.{List, [], ◌∷◌}
use mathlib.Core.Path.{◌≡◌, refl, sym, ap, subst, ◌∙◌}
use native.Mathlib.Omega.{arith}
use lib.ListN.{length, take}
use borrow.Author.Tests.{le-ltb, eq-eqb, ne_eqb}
use Rattle.timing.specs.Limits.{max_period}
use Rattle.timing.specs.Rules.{Each}
use Rattle.timing.specs.declared.Pair.{Pair}
use Rattle.std.specs.Prelude.{Ok, Err}
use Rattle.refusals.specs.Checks.{number_of, first_fault, no_fault}
use Rattle.refusals.specs.Reply.{numbers}
use Rattle.refusals.specs.declared.Refused.{Refused}
use Rattle.refusals.proofs.ReplyLaws.{numbers-none, told-refusal, told-numbers}
use Rattle.list_format.specs.Lists.{registers, pair_at, PairIn, IsPair, IsUsable}
use Rattle.list_format.proofs.ListLaws.{numbers-in, list-usable}
use Rattle.checker.specs.Check.{Answer, answer_for, timing_checks, check_checks, checking, check_values, check_reply, reported, IsSmallest, CheckedAs}
use Rattle.checker.specs.declared.Rule.{Rule}
use Rattle.checker.specs.declared.Smallest.{Smallest}
use Rattle.checker.specs.declared.Checking.{Checking}
use Rattle.checker.specs.declared.Checking.TheVariants.{NoPairs, Admissible, Broken}
use Rattle.checker.proofs.CheckLaws.{broken-below}
use Rattle.text_pieces.specs.Pieces.{Put, letters}
use Rattle.text_pieces.specs.Saying.{Said, SaidAs, trouble_of, text as say_text, trouble as say_trouble}
use Rattle.text_pieces.proofs.SaidLaws.{said-text, said-trouble}
use Rattle.refusal_text.specs.RefusalText.{line_width, caused_line, fault_line_of}
use Rattle.list_bytes.specs.ListBytes.{list_of}
use Rattle.scan.specs.declared.Numbers.{Numbers}
use Rattle.scan.specs.declared.FaultAt.{FaultAt}
use Rattle.scan.specs.Scan.{Scanned, ScanAs}
use Rattle.scan.proofs.StoredLaws.{stored-front}
use Rattle.check_text.specs.CheckText.{text_places, answer_text, answer_said, check_cause, check_refused, checked_said, scanned_said, check_text}

-- no words have no registers
pub no-registers : (ws : List ℕ) → length ws ≡ 0 → 0 ≡ registers ws
no-registers [] e = refl
no-registers (w ∷ ws) e = absurd (omega arith)

-- the cause of a 3 with a period in range
module _ (ws : List ℕ) {t count n : ℕ} (some : t ≡ 0 → ⊥) (few : t ≤ max_period) (is : n ≡ registers ws) where
  pub cause-timing : count ≡ n → 34 ≡ check_cause ws t count 3
  unfolding check_cause
  cause-timing same = rw (ne_eqb t 0 some, le-ltb max_period t few, eq-eqb count (registers ws) (same ∙ is))

  pub cause-count : (count ≡ n → ⊥) → 33 ≡ check_cause ws t count 3
  unfolding check_cause
  cause-count other = rw (ne_eqb t 0 some, le-ltb max_period t few, ne_eqb count (registers ws) (λ z. other (z ∙ sym is)))

-- ---- the schedule

module _ {ws s : List ℕ} {t : ℕ} {r : Answer} (a : CheckedAs ws t s r) where
  pub said-refused : {why : Refused} {next : ℕ} {text text' : List ℕ} → r ≡ Err why
      → Put line_width (caused_line (number_of why.refusal) why.place (check_cause ws t (length s) (number_of why.refusal))) text 0 text' next
      → SaidAs text_places (checked_said ws t s) text text' (Err (trouble_of next))
  unfolding check_reply checked_said
  said-refused e put =
      rw (told-refusal (check_refused ws t (length s)) (answer_said ws t s) (checking ws t s) (rw e at a.reply)) (said-trouble put (omega arith))

  -- of any answer the numbers are returned
  module _ {y : Checking} (e : r ≡ Ok y) where
    told-numbers-of : numbers (check_values y) ≡ check_reply r
    unfolding check_reply
    told-numbers-of = rw e

    accepted : first_fault (check_checks ws t s) ≡ no_fault
    unfolding checking
    accepted = numbers-none (first_fault (check_checks ws t s)) _ (told-numbers-of ∙ a.reply)

    usable : IsUsable ws
    unfolding checking
    usable = list-usable ws (numbers-in ws (timing_checks (registers ws) t s) _ (told-numbers-of ∙ a.reply))

    is-answer : y ≡ answer_for ws t s
    is-answer =
        let both : Ok y ≡ Ok (answer_for ws t s) = sym e ∙ a.answer accepted in
        cc

    said-by : checked_said ws t s ≡ say_text (answer_text ws y)
    unfolding checked_said
    said-by =
        told-numbers (check_refused ws t (length s)) (answer_said ws t s) [] (λ xs ys. refl) (checking ws t s) (told-numbers-of ∙ a.reply)
        ∙ ap (λ (q : Checking). say_text (answer_text ws q)) (sym is-answer)

    said-as : {w next : ℕ} {text text' : List ℕ} → Put w (answer_text ws y) text 0 text' next → w ≤ text_places
        → SaidAs text_places (checked_said ws t s) text text' (Ok next)
    said-as put h = rw said-by (said-text put h)

  pub said-none : {next : ℕ} {text text' : List ℕ} → r ≡ Ok NoPairs → Put 20 (letters "admissible\nno pairs\n") text 0 text' next
      → SaidAs text_places (checked_said ws t s) text text' (Ok next)
  unfolding answer_text
  said-none e put = said-as e put (omega arith)

  module _ {x : Smallest} (e : r ≡ Ok (Admissible x)) where
    pub met-in : PairIn ws x.pair
    unfolding reported
    met-in =
        let margin : Each (IsSmallest ws t s) (reported (Ok (Admissible x))) = rw e at a.margin in
        record { usable = usable e; below = margin.0.below }

    pub said-met : {next : ℕ} {text text' : List ℕ} → Put text_places (answer_text ws (Admissible x)) text 0 text' next
        → SaidAs text_places (checked_said ws t s) text text' (Ok next)
    said-met put = said-as e put (omega arith)

  module _ {k : ℕ} {rule : Rule} {x : Smallest} (e : r ≡ Ok (Broken k rule x)) where
    pub broken-in : PairIn ws k
    broken-in = record { usable = usable e; below = broken-below ws t s (is-answer e) }

    pub lowest-in : PairIn ws x.pair
    unfolding reported
    lowest-in =
        let margin : Each (IsSmallest ws t s) (reported (Ok (Broken k rule x))) = rw e at a.margin in
        record { usable = usable e; below = margin.0.below }

    pub said-broken : {next : ℕ} {text text' : List ℕ} → Put text_places (answer_text ws (Broken k rule x)) text 0 text' next
        → SaidAs text_places (checked_said ws t s) text text' (Ok next)
    said-broken put = said-as e put (omega arith)

-- words for the registers of a pair that was taken from the list
pub pair_put : (f : ℕ → ℕ → List ℕ) {ws : List ℕ} {k : ℕ} {p : Pair} {w at next : ℕ} {text text' : List ℕ} → IsPair ws k p
    → Put w (f p.launch p.capture) text at text' next → Put w (f (pair_at ws k).launch (pair_at ws k).capture) text at text' next
pair_put f {w = w} {at} {next} {text} {text'} is put =
    subst (λ (q : Pair). Put w (f q.launch q.capture) text at text' next) is.same put

-- ---- the text of the schedule

module _ {ts was now : List ℕ} {r : Scanned} (a : ScanAs false ts was now r) where
  pub text-faulty : (bs : List ℕ) (t : ℕ) {wrong : FaultAt} {next : ℕ} {text text' : List ℕ} → r ≡ Err wrong
      → Put line_width (fault_line_of wrong) text 0 text' next
      → SaidAs text_places (check_text bs t ts) text text' (Err (trouble_of next))
  unfolding scanned_said
  text-faulty bs t {wrong} e put =
      let here : check_text bs t ts ≡ say_trouble (fault_line_of wrong) = rw (← a.answer, e) in
      rw here (said-trouble put (omega arith))

  module _ {found : Numbers} (e : r ≡ Ok found) where
    pub text-numbers : (bs : List ℕ) (t : ℕ) {said : Said} {text text' : List ℕ}
        → SaidAs text_places (checked_said (list_of bs) t (take found.count now)) text text' said
        → SaidAs text_places (check_text bs t ts) text text' said
    unfolding scanned_said
    text-numbers bs t said =
        let here : check_text bs t ts ≡ checked_said (list_of bs) t (take found.count now) = rw (← a.answer, e, stored-front a e) in
        rw here said
