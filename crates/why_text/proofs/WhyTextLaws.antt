-- From what the call promises to the text that is stored: a refusal, a period that works, and one that is blocked; and what is said is true.
use Prim.Native.Nat.{ℕ, ◌+◌, ◌-◌, ◌≤◌}
use mathlib.Core.Bool.{Bool, true, false}
use mathlib.Core.List.{List, [], ◌∷◌, ◌++◌, append_assoc}
use mathlib.Core.Path.{◌≡◌, refl, sym, ap, ◌∙◌}
use native.Mathlib.Omega.{arith}
use lib.ListN.{length, get_or, take, drop}
use lib.Seq.{take_at, drop_at}
use Rattle.timing.specs.Limits.{max_scratch}
use Rattle.buffers.specs.Over.{over, zeros}
use Rattle.buffers.proofs.PadLaws.{zeros-size}
use Rattle.refusals.specs.Reply.{numbers, Outcome, reply_of, buffer_after}
use Rattle.refusals.proofs.ReplyLaws.{numbers-done, told-refusal, told-numbers}
use Rattle.list_format.specs.Lists.{registers, pair_count, pairs, IsUsable}
use Rattle.list_format.proofs.ListLaws.{numbers-in, list-usable}
use Rattle.free_laws.specs.Free.{common}
use Rattle.plan_laws.specs.Plan.{two_works}
use Rattle.chain_laws.specs.Chains.{Chains}
use Rattle.blocking.specs.Blocking.{Reason, why_call_checks, why_checks, why_outcome, why_not, why_reply, WorkingAt, BlockedBy, WhyAs}
use Rattle.std.specs.Prelude.{None, Some, Ok, Err}
use Rattle.refusals.specs.Checks.{number_of}
use Rattle.refusals.specs.declared.Refused.{Refused}
use Rattle.blocking.specs.declared.Blocked.{Blocked}
use Rattle.text_pieces.specs.Pieces.{Put, letters}
use Rattle.text_pieces.specs.Saying.{Saying, text as say_text, trouble as say_trouble, trouble_of, bytes_of}
use Rattle.text_pieces.proofs.SaidLaws.{said-text, said-trouble}
use Rattle.refusal_text.specs.RefusalText.{line_width, caused_line}
use Rattle.why_text.specs.WhyText.{step_places, why_places, chains_in, ShownIn, blocked_text, workable_said, blocked_said, why_said}
use Rattle.why_text.specs.WhyText.{why_cause, why_refused, why_text, WhySaidAs}
use Rattle.why_text.proofs.StepLaws.{shown-in}

-- the call with room for the largest list
abbrev why_of : List ℕ → ℕ → Chains → Outcome
why_of ws t x = why_not ws t step_places max_scratch x

-- what is stored where chains are shown
shown_by : (b : Bool) (x : Chains) (was : List ℕ) {xs : List ℕ} → numbers (1 ∷ xs) ≡ reply_of (why_outcome b x)
    → buffer_after (why_outcome b x) was ≡ over (x.first ++ x.second) was
unfolding why_outcome reply_of buffer_after
shown_by true x was e =
    let z : ◌≡◌ {A = ℕ} 0 1 = cc in
    absurd (omega arith)
shown_by false x was e = refl

-- a text or what is wrong, as a number
abbrev is_text : Saying → ℕ
is_text (say_text bs) = 1
is_text (say_trouble bs) = 0

module _ {ws now scratch' : List ℕ} {t : ℕ} {r : Reason} (a : WhyAs ws t (zeros step_places) now (zeros max_scratch) scratch' r) where
  why-reply : why_reply r ≡ reply_of (why_of ws t a.chains)
  why-reply = rw (zeros-size step_places, zeros-size max_scratch) at a.reply

  why-stored : now ≡ buffer_after (why_of ws t a.chains) (zeros step_places)
  why-stored = rw (zeros-size step_places, zeros-size max_scratch) at a.stored

  -- ---- the text of each answer

  said-refused : {why : Refused} → r ≡ Err why → why_text ws t a.chains ≡ why_refused (number_of why.refusal) why.place
  unfolding why_text why_reply
  said-refused e = told-refusal why_refused (why_said ws t a.chains) (why_of ws t a.chains) (rw e at why-reply)

  said-numbers : {xs : List ℕ} → numbers xs ≡ why_reply r → why_text ws t a.chains ≡ why_said ws t a.chains xs []
  unfolding why_text
  said-numbers e = told-numbers why_refused (why_said ws t a.chains) [] (λ xs ys. refl) (why_of ws t a.chains) (e ∙ why-reply)

  said-workable : r ≡ Ok None → why_text ws t a.chains ≡ workable_said
  unfolding why_reply
  said-workable e = said-numbers {xs = 0 ∷ []} (rw e)

  said-blocked : {b : Blocked} → r ≡ Ok (Some b) → why_text ws t a.chains ≡ blocked_said ws t a.chains
  unfolding why_reply
  said-blocked {b} e = said-numbers {xs = 1 ∷ b.register ∷ b.first ∷ b.second ∷ []} (rw e)

  -- ---- what is said is true

  is-workable : (q : Reason) → r ≡ q → why_text ws t a.chains ≡ workable_said → WorkingAt ws t
  unfolding blocked_text bytes_of
  is-workable (Ok None) e said = a.workable e
  is-workable (Ok (Some b)) e said =
      let z : ◌≡◌ {A = ℕ} 98 119 = ap (λ (p : Saying). get_or (bytes_of p) 0 0) (sym (said-blocked e) ∙ said) in
      absurd (omega arith)
  is-workable (Err why) e said =
      let z : ◌≡◌ {A = ℕ} 0 1 = ap is_text (sym (said-refused e) ∙ said) in
      absurd (omega arith)

  is-blocked : (q : Reason) → r ≡ q → why_text ws t a.chains ≡ blocked_said ws t a.chains
      → BlockedBy ws t a.chains a.chains.register (length a.chains.first) (length a.chains.second)
  unfolding blocked_text bytes_of
  is-blocked (Ok None) e said =
      let z : ◌≡◌ {A = ℕ} 119 98 = ap (λ (p : Saying). get_or (bytes_of p) 0 0) (sym (said-workable e) ∙ said) in
      absurd (omega arith)
  is-blocked (Ok (Some found)) e said =
      let b = a.blocked found.register found.first found.second e in
      record { register_is = refl; first_is = refl; second_is = refl; sound = b.sound; none = b.none }
  is-blocked (Err why) e said =
      let z : ◌≡◌ {A = ℕ} 0 1 = ap is_text (sym (said-refused e) ∙ said) in
      absurd (omega arith)

  -- ---- what is stored

  pub why-refused : {why : Refused} {next : ℕ} {text text' : List ℕ} → r ≡ Err why
      → Put line_width (caused_line (number_of why.refusal) why.place (why_cause (number_of why.refusal))) text 0 text' next
      → WhySaidAs ws t text text' (Err (trouble_of next))
  why-refused e put =
      record {
        chains = a.chains;
        said = rw (said-refused e) (said-trouble put (omega arith));
        workable = is-workable r refl;
        blocked = is-blocked r refl;
      }

  pub why-workable : {next : ℕ} {text text' : List ℕ} → r ≡ Ok None → Put 9 (letters "workable\n") text 0 text' next
      → WhySaidAs ws t text text' (Ok next)
  why-workable e put =
      record {
        chains = a.chains;
        said = rw (said-workable e) (said-text put (omega arith));
        workable = is-workable r refl;
        blocked = is-blocked r refl;
      }

  module _ {found : Blocked} (e : r ≡ Ok (Some found)) where
    told : numbers (1 ∷ found.register ∷ found.first ∷ found.second ∷ []) ≡ reply_of (why_of ws t a.chains)
    unfolding why_reply
    told = rw e at why-reply

    usable : IsUsable ws
    unfolding why_not
    usable = list-usable ws (numbers-in ws (why_call_checks (registers ws) (pair_count ws) t step_places max_scratch) _ told)

    stored : now ≡ over (a.chains.first ++ a.chains.second) (zeros step_places)
    unfolding why_not
    stored =
        let x = a.chains in
        let works = two_works (registers ws) (pairs ws) t in
        let is : why_of ws t x ≡ why_outcome works x = numbers-done (why_checks ws t step_places max_scratch) (why_outcome works x) told in
        why-stored ∙ ap (λ (o : Outcome). buffer_after o (zeros step_places)) is ∙ shown_by works x (zeros step_places) (told ∙ ap reply_of is)

    -- the chains as they stand in the buffer
    same : chains_in found.register found.first found.second now ≡ a.chains
    same =
        let b = a.blocked found.register found.first found.second e in
        let x = a.chains in
        let rest = drop (length (x.first ++ x.second)) (zeros step_places) in
        let all : now ≡ x.first ++ (x.second ++ rest) = stored ∙ append_assoc x.first x.second rest in
        let front : take found.first now ≡ x.first = rw all (take_at x.first (x.second ++ rest) found.first (sym b.first_is)) in
        let later : drop found.first now ≡ x.second ++ rest = rw all (drop_at x.first (x.second ++ rest) found.first (sym b.first_is)) in
        let back : take found.second (drop found.first now) ≡ x.second = rw later (take_at x.second rest found.second (sym b.second_is)) in
        rw (b.register_is, front, back)

    pub blocked-shown : ShownIn ws (chains_in found.register found.first found.second now)
    blocked-shown = rw same (shown-in ws t _ a.chains usable (a.blocked found.register found.first found.second e).sound)

    pub blocked-fits : found.first + found.second ≤ step_places
    blocked-fits =
        let b = a.blocked found.register found.first found.second e in
        omega (arith, b.first_is, b.second_is, (shown-in ws t _ a.chains usable b.sound).few)

    pub why-blocked : {next : ℕ} {text text' : List ℕ}
        → Put why_places (blocked_text t (common (pairs ws) - t) (pairs ws) (chains_in found.register found.first found.second now)) text 0 text' next
        → WhySaidAs ws t text text' (Ok next)
    why-blocked put =
        record {
          chains = a.chains;
          said = rw (said-blocked e) (said-text (rw same at put) (omega arith));
          workable = is-workable r refl;
          blocked = is-blocked r refl;
        }
