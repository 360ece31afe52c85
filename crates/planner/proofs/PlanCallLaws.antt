-- The buffers part by part, and the ways that a call can end, each with the whole promise.
-- A refusal changes nothing. An allowed call stores the free timings in the first n places and the split's in the next n, which
-- is one store of both (`over-twice`), and clears the scratch; so each part read back is the schedule that was meant (`front`,
-- `behind`). No rival beats them (`plan-unbeaten`), and being admissible and in range both pass a check (`admissible-passes`).
use Prim.Native.Nat.{ℕ, ◌+◌, ◌-◌, ◌*◌, ◌≤◌}
use Rattle.std.specs.Prelude.{Ok, Err}
use mathlib.Core.List.{List, [], ◌∷◌, ◌++◌, append_assoc}
use mathlib.Core.Path.{◌≡◌, refl, ap, sym, ◌∙◌}
use native.Mathlib.Nat.{le_trans}
use native.Mathlib.Omega.{arith}
use borrow.Author.Tests.{ltb-false}
use lib.ListN.{length, take, drop, replicate, length-drop, length-replicate}
use lib.Seq.{length-take-le, take_at, drop_at, drop-drop}
use Rattle.timing.specs.Rules.{Each, InRange}
use Rattle.timing.specs.Limits.{max_timing, scratch_places}
use Rattle.buffers.specs.Over.{over}
use Rattle.buffers.proofs.FillLaws.{Filled, filled_put, drop-further}
use Rattle.refusals.specs.Checks.{first_fault, no_fault, Fault, number_of}
use Rattle.refusals.specs.Reply.{numbers, refused, done, reply_of, buffer_after, scratch_after}
use Rattle.refusals.specs.declared.Refused.{Refused}
use Rattle.refusals.proofs.CheckLaws.{pass-both, both-pass, passed}
use Rattle.refusals.proofs.ReplyLaws.{answered-done, first-refused, then-refused}
use Rattle.list_format.specs.Lists.{registers, pair_count, pairs, list_checks, verdict, accepted, IsAccepted, UsableList}
use Rattle.list_format.proofs.ListLaws.{refused→fault, accepted→none, none→accepted, usable-list, pairs-in-range, some-registers}
use Rattle.counted_list.specs.Counted.{counted_in, Countable}
use Rattle.counted_list.proofs.CountedLaws.{counted-length, counted-usable, counted-pairs}
use Rattle.free_laws.specs.Free.{common, free_period, free_schedule}
use Rattle.free_laws.proofs.FreeLaws.{period-pos}
use Rattle.free_laws.specs.Constraint.{Bound}
use Rattle.free_laws.proofs.Bound.{bound-free}
use Rattle.free_schedule.specs.FreeCall.{Roomy, FreeIn}
use Rattle.free_schedule.proofs.CallLaws.{common-upto, free-passes}
use Rattle.checker.specs.Check.{Passes}
use Rattle.checker.proofs.CheckLaws.{admissible-passes, passes-as}
use Rattle.split_laws.proofs.TimingsLaws.{timings-below}
use Rattle.split_laws.specs.Split.{timings}
use Rattle.plan_laws.specs.Plan.{two_period, two_offset, two_timings}
use Rattle.plan_laws.specs.Unbeaten.{Unbeaten}
use Rattle.plan_laws.specs.Reach.{late_above}
use Rattle.plan_laws.proofs.TwoLaws.{two-common}
use Rattle.plan_laws.proofs.UnbeatenLaws.{plan-unbeaten}
use Rattle.reach.specs.Settling.{Reached}
use Rattle.planner.specs.declared.Planned.{Planned}
use Rattle.planner.specs.PlanCall.{plan_call_checks, plan_checks, plan_numbers, plan_timings, planning, plan_reply, Planning, PlanAs, PlanAllowed}
use Rattle.planner.specs.PlanCall.{PlanRoom, PlanIn, TwoIn}

-- ---- a refusal changes nothing

module _ (ws answer scratch : List ℕ) where
  kept : {r : Refused} → planning ws (length answer) (length scratch) ≡ refused (number_of r.refusal) r.place
      → PlanAs ws answer answer scratch scratch (Err r)
  unfolding reply_of buffer_after scratch_after plan_reply
  kept e =
      record {
        reply = rw e;
        stored = rw e;
        left = rw e;
        unbeaten = λ p q. let z : ◌≡◌ {A = ℕ} 0 1 = cc in absurd (omega arith);
        passes = λ p q. let z : ◌≡◌ {A = ℕ} 0 1 = cc in absurd (omega arith);
      }

  -- the list is refused
  pub list-refused : {r : Refused} → verdict ws ≡ Err r → PlanAs ws answer answer scratch scratch (Err r)
  unfolding planning
  list-refused v = kept (first-refused (list_checks ws) _ _ (refused→fault ws v))

  -- the list is accepted, and the caller's checks decide
  module _ {n m : ℕ} (v : verdict ws ≡ accepted n m) {f : Fault} (e : f ≡ first_fault (plan_call_checks n m (length answer) (length scratch))) where
    fault-is : f ≡ first_fault (plan_call_checks (registers ws) (pair_count ws) (length answer) (length scratch))
    fault-is =
        let a = accepted→none ws v in
        rw (a.list.registers_are, a.list.pairs_are) at e

    pub call-refused : {r : Refused} → f ≡ Err r → PlanAs ws answer answer scratch scratch (Err r)
    unfolding planning
    call-refused g = kept (then-refused (list_checks ws) _ _ (accepted→none ws v).none (sym fault-is ∙ g))

    pub call-allowed : f ≡ no_fault → PlanAllowed ws n m (length answer) (length scratch)
    call-allowed g =
        let a = accepted→none ws v in
        let call = plan_call_checks (registers ws) (pair_count ws) (length answer) (length scratch) in
        let p = passed call (sym fault-is ∙ g) in
        let h : 2 * registers ws ≤ length answer = ltb-false _ _ p.0 in
        let k : scratch_places (registers ws) (pair_count ws) ≤ length scratch = ltb-false _ _ p.1.0 in
        record {
          none = pass-both (list_checks ws) call a.none (sym fault-is ∙ g);
          list = usable-list ws a.list;
          answers = omega (arith, a.list.registers_are);
          scratches = omega (arith, a.list.registers_are, a.list.pairs_are);
        }

-- ---- the common period less the two-timing one

module _ (ws : List ℕ) {top two : ℕ} (e : top ≡ common (pairs ws)) (p : two ≡ two_period (registers ws) (pairs ws)) where
  pub two_fits : two ≤ top
  two_fits = omega (arith, p, two-common (registers ws) (pairs ws))

  offset-is : top - two ≡ two_offset (registers ws) (pairs ws)
  unfolding two_offset
  offset-is = rw (e, p)

-- ---- the plan of a list

-- the free timings
abbrev F : List ℕ → List ℕ
F ws = free_schedule (registers ws) (pairs ws)

-- the split's timings
abbrev C : List ℕ → List ℕ
C ws = two_timings (registers ws) (pairs ws)

module _ {ws : List ℕ} {n m : ℕ} (l : UsableList ws n m) where
  inside : Each (InRange (registers ws)) (pairs ws)
  inside = pairs-in-range ws l.usable

  whole : Unbeaten (registers ws) (pairs ws) (common (pairs ws)) (free_period (registers ws) (pairs ws))
      (two_period (registers ws) (pairs ws)) (two_offset (registers ws) (pairs ws)) (F ws) (C ws)
  whole = plan-unbeaten (registers ws) (pairs ws) inside

  -- the free period bounds the two-timing one
  module _ {free : ℕ} (e : free ≡ free_period (registers ws) (pairs ws)) where
    pub free-pos : 1 ≤ free
    free-pos = omega (arith, e, period-pos (registers ws) (pairs ws) inside)

    pub free_bound : Bound (pairs ws) (free - 1 + 1)
    free_bound =
        let same : free - 1 + 1 ≡ free_period (registers ws) (pairs ws) = omega (arith, e, free-pos) in
        rw same (bound-free (registers ws) (pairs ws) inside)

-- the reaches give the split's timings
pub two_in : {ws : List ℕ} {top two : ℕ} {W part : List ℕ} → top ≡ common (pairs ws) → Reached ws W two
    → part ≡ timings (top - two) (late_above two W) → TwoIn ws part two
two_in {ws} e r s = record { period = r.period; timings = s ∙ rw (offset-is ws e r.period) (sym r.split) }

module _ {ws : List ℕ} {n m : ℕ} {answer : List ℕ} (a : PlanRoom ws n m answer) where
  -- room for the free timings
  pub plan-roomy : Roomy ws n m answer
  plan-roomy = record { list = a.list; room = omega (arith, a.places) }

  -- the places of the split's timings, lent
  pub lent-size : (A : List ℕ) → length A ≡ length answer → length (take (2 * n - n) (drop n A)) ≡ n
  lent-size A e = length-take-le (2 * n - n) (drop n A) (rw length-drop (omega (arith, a.places))) ∙ omega arith

  -- both parts are stored
  pub plan-in : {top free two : ℕ} {A₁ part : List ℕ} → top ≡ common (pairs ws) → FreeIn ws answer A₁ free → TwoIn ws part two
      → PlanIn ws answer (take n A₁ ++ (part ++ drop (2 * n - n) (drop n A₁)))
      (Ok (record { common = top; free = free; two = two; offset = top - two }))
  unfolding plan_reply
  plan-in {A₁ = A₁} {part = part} e f t =
      let w = whole a.list in
      let sized : length (F ws) ≡ n = w.freely.size ∙ sym a.list.registers_are in
      let first : Filled (F ws) answer A₁ = record { room = omega (arith, sized, a.places); is = f.places } in
      let width : 2 * n - n ≡ length (C ws) = omega (arith, w.split.size, a.list.registers_are) in
      record {
        reply = rw (offset-is ws e t.period, e, f.period, t.period);
        stored = (filled_put first (C ws) (take n A₁ ++ (part ++ drop (2 * n - n) (drop n A₁))) {at = n} (sym sized)
            (omega (arith, width, a.places)) (rw (t.timings, width, drop-drop))).is;
      }

-- ---- an allowed call

module _ {ws : List ℕ} {n m room spare : ℕ} (a : PlanAllowed ws n m room spare) where
  pub plain-room : {answer : List ℕ} → length answer ≡ room → PlanRoom ws n m answer
  plain-room e = record { list = a.list; places = omega (arith, a.answers) }

  -- a copy of the list with its needs counted in, in the scratch
  module _ (scratch : List ℕ) (e : length scratch ≡ spare) where
    countable : Countable ws m scratch
    countable =
        let l = a.list in
        record { usable = l.usable; pairs_are = l.pairs_are; room = omega (arith, a.scratches, l.registers_are, some-registers ws l) }

    module _ {S : List ℕ} (s : S ≡ over (counted_in ws) scratch) where
      pub counted-room : {answer : List ℕ} → length answer ≡ room → PlanRoom S n m answer
      counted-room f = rw s (record { list = counted-usable countable a.list.registers_are; places = omega (arith, a.answers) })

      -- its plan is the plan of the list
      pub counted-plan : {answer answer' : List ℕ} {r : Planning} → PlanIn S answer answer' r → PlanIn ws answer answer' r
      counted-plan p =
          let registered : registers S ≡ registers ws = ap registers s in
          let paired : pairs S ≡ pairs ws = ap pairs s ∙ counted-pairs countable in
          record { reply = rw (registered, paired) at p.reply; stored = rw (registered, paired) at p.stored }

      pub counted-rest : drop (scratch_places n m) S ≡ drop (scratch_places n m) scratch
      counted-rest =
          drop-further (length (counted_in ws)) (scratch_places n m) scratch S (omega (arith, counted-length ws, a.list.pairs_are))
          (rw s (drop_at (counted_in ws) _ (length (counted_in ws)) refl))

-- ---- the whole call

module _ (ws answer scratch : List ℕ) {n m : ℕ} (a : PlanAllowed ws n m (length answer) (length scratch)) where
  is-list : IsAccepted ws
  is-list = none→accepted ws (both-pass (list_checks ws) _ a.none).0

  -- the split's timings, brought to a check at the two-timing period
  two-passes : Passes ws (two_period (registers ws) (pairs ws)) (C ws)
  unfolding two_offset
  two-passes =
      let w = whole a.list in
      let upto = common-upto a.list in
      let limit = timings-below max_timing (two_offset (registers ws) (pairs ws)) w.split.split (omega arith) in
      admissible-passes ws _ (C ws) is-list w.split.from_one (le_trans w.common_last upto) w.split.size
      (λ r. rw w.split.shown (limit r)) w.split.meets

  outcome : planning ws (length answer) (length scratch) ≡ done (plan_numbers ws) (plan_timings ws)
  unfolding planning
  outcome = answered-done (plan_checks ws (length answer) (length scratch)) _ a.none

  -- the scratch is left zero
  pub left-zero : {S : List ℕ} (used : List ℕ) → drop (scratch_places n m) used ≡ drop (scratch_places n m) scratch
      → S ≡ replicate (scratch_places n m) 0 ++ drop (scratch_places n m) used
      → S ≡ over (replicate (scratch_places (registers ws) (pair_count ws)) 0) scratch
  left-zero used rest cleared = cleared ∙ rw (rest, length-replicate, a.list.registers_are, a.list.pairs_are)

  module _ {A S : List ℕ} {r : Planning} (p : PlanIn ws answer A r)
      (zeros : S ≡ over (replicate (scratch_places (registers ws) (pair_count ws)) 0) scratch) where
    front : take (registers ws) A ≡ F ws
    front = ap (take (registers ws)) (p.stored ∙ append_assoc (F ws) (C ws) _) ∙ take_at (F ws) _ (registers ws) (whole a.list).freely.size

    behind : take (registers ws) (drop (registers ws) A) ≡ C ws
    behind =
        ap (λ (x : List ℕ). take (registers ws) (drop (registers ws) x)) (p.stored ∙ append_assoc (F ws) (C ws) _)
        ∙ ap (take (registers ws)) (drop_at (F ws) _ (registers ws) (whole a.list).freely.size)
        ∙ take_at (C ws) _ (registers ws) (whole a.list).split.size

    -- the numbers returned are those of the plan
    told : {x : Planned} → r ≡ Ok x
        → (x.common ≡ common (pairs ws)) × ((x.free ≡ free_period (registers ws) (pairs ws))
        × ((x.two ≡ two_period (registers ws) (pairs ws)) × (x.offset ≡ two_offset (registers ws) (pairs ws))))
    unfolding plan_reply
    told {x} q =
        let said : numbers (x.common ∷ x.free ∷ x.two ∷ x.offset ∷ []) ≡ numbers (plan_numbers ws) = sym (ap plan_reply q) ∙ p.reply in
        (cc, (cc, (cc, cc)))

    pub planned : PlanAs ws answer A scratch S r
    unfolding reply_of buffer_after scratch_after
    planned =
        record {
          reply = rw outcome p.reply;
          stored = rw outcome p.stored;
          left = rw outcome zeros;
          unbeaten = λ x q.
              let are = told q in
              rw (are.0, are.1.0, are.1.1.0, are.1.1.1, front, behind) (whole a.list);
          passes = λ x q.
              let are = told q in
              (passes-as ws are.1.0 front (free-passes a.list is-list), passes-as ws are.1.1.0 behind two-passes);
        }
