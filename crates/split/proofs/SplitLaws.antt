-- The ways that a call can end, each with the whole promise.
-- A refusal changes nothing. An allowed call comes to what the trial decided, the first split or none, and its outcome is known:
-- reply, buffer and scratch follow by computation. That a split handed out works, and that no split works where none is, is what
-- the first split means (FoundLaws, of split_laws); being admissible and in range, its timings pass a check.
use Prim.Native.Nat.{ℕ, ◌≤◌}
use mathlib.Core.Bool.{Bool, true, false}
use mathlib.Core.List.{List, ◌++◌}
use mathlib.Core.Path.{◌≡◌, ap, sym, ◌∙◌}
use native.Mathlib.Omega.{arith}
use lib.ListN.{length, take, drop, replicate, length-replicate, length-map}
use lib.Seq.{take_at}
use borrow.Author.Tests.{ltb-false, eqb-false}
use Rattle.buffers.specs.Over.{over}
use Rattle.refusals.specs.Checks.{first_fault, no_fault, Fault, number_of}
use Rattle.refusals.specs.Reply.{refused, reply_of, buffer_after, scratch_after}
use Rattle.timing.specs.Limits.{max_timing, scratch_places}
use Rattle.refusals.proofs.CheckLaws.{pass-both, both-pass, passed}
use Rattle.refusals.proofs.ReplyLaws.{answered-done, first-refused, then-refused}
use Rattle.list_format.specs.Lists.{registers, pair_count, pairs, list_checks, verdict, accepted, IsAccepted}
use Rattle.list_format.proofs.ListLaws.{refused→fault, accepted→none, none→accepted, usable-list}
use Rattle.split_laws.specs.Split.{time_of, timings, works, first_split}
use Rattle.split_laws.proofs.TimingsLaws.{two-timings, timings-below}
use Rattle.split_laws.proofs.FoundLaws.{found-works, none-works}
use Rattle.checker.proofs.CheckLaws.{admissible-passes}
use Rattle.split_laws.specs.Marks.{split_of}
use Rattle.propagate.specs.Store.{Decided, chosen}
use Rattle.split.specs.Splitting.{split_call_checks, split_checks, split_outcome, splitting, split_reply, WorksAs, SplitAs, SplitAllowed}
use Rattle.std.specs.Prelude.{Ok, Err}
use Rattle.refusals.specs.declared.Refused.{Refused}

module _ (ws : List ℕ) (period offset : ℕ) (answer scratch : List ℕ) where
  -- a refusal changes nothing
  kept : {r : Refused} → splitting ws period offset (length answer) (length scratch) ≡ refused (number_of r.refusal) r.place
      → SplitAs ws period offset answer answer scratch scratch (Err r)
  unfolding reply_of buffer_after scratch_after split_reply
  kept e =
      record {
        reply = rw e;
        stored = rw e;
        left = rw e;
        works = λ q. let z : ◌≡◌ {A = ℕ} 0 1 = cc in absurd (omega arith);
        none = λ q. let z : ◌≡◌ {A = ℕ} 0 1 = cc in absurd (omega arith);
      }

  -- the list is refused
  pub list-refused : {r : Refused} → verdict ws ≡ Err r
      → SplitAs ws period offset answer answer scratch scratch (Err r)
  unfolding splitting
  list-refused v = kept (first-refused (list_checks ws) _ _ (refused→fault ws v))

  -- the list is accepted, and the caller's checks decide
  module _ {n m : ℕ} (v : verdict ws ≡ accepted n m) {f : Fault}
      (e : f ≡ first_fault (split_call_checks n m period offset (length answer) (length scratch))) where
    fault-is : f ≡ first_fault (split_call_checks (registers ws) (pair_count ws) period offset (length answer) (length scratch))
    fault-is =
        let a = accepted→none ws v in
        rw (a.list.registers_are, a.list.pairs_are) at e

    pub call-refused : {r : Refused} → f ≡ Err r → SplitAs ws period offset answer answer scratch scratch (Err r)
    unfolding splitting
    call-refused g = kept (then-refused (list_checks ws) _ _ (accepted→none ws v).none (sym fault-is ∙ g))

    pub call-allowed : f ≡ no_fault → SplitAllowed ws period offset n m answer scratch
    call-allowed g =
        let a = accepted→none ws v in
        let call = split_call_checks (registers ws) (pair_count ws) period offset (length answer) (length scratch) in
        let p = passed call (sym fault-is ∙ g) in
        let h : registers ws ≤ length answer = ltb-false _ _ p.1.1.1.0 in
        let k : scratch_places (registers ws) (pair_count ws) ≤ length scratch = ltb-false _ _ p.1.1.1.1.0 in
        record {
          none = pass-both (list_checks ws) call a.none (sym fault-is ∙ g);
          lent = record { list = usable-list ws a.list; room = omega (arith, a.list.registers_are, a.list.pairs_are) };
          room = omega (arith, a.list.registers_are);
          from = omega (arith, eqb-false period 0 p.0);
          upto = ltb-false _ _ p.1.0;
          offset_in = ltb-false _ _ p.1.1.0;
        }

  -- ---- an allowed call
  module _ {n m : ℕ} (a : SplitAllowed ws period offset n m answer scratch) where
    -- what the trial decided, and the scratch cleared after it
    module _ (S S' : List ℕ) {r : Bool} (d : Decided period offset ws n scratch S r)
        (cleared : S' ≡ replicate (scratch_places n m) 0 ++ drop (scratch_places n m) S) where
      zeros : S' ≡ over (replicate (scratch_places (registers ws) (pair_count ws)) 0) scratch
      zeros = cleared ∙ rw (length-replicate, a.lent.list.pairs_are, d.rest, a.lent.list.registers_are)

      first : (b : Bool) → r ≡ b → first_split (registers ws) period offset (pairs ws) ≡ chosen b (split_of (take n S))
      first b e =
          ap (λ (k : ℕ). first_split k period offset (pairs ws)) (sym a.lent.list.registers_are)
          ∙ d.first
          ∙ ap (λ (x : Bool). chosen x (split_of (take n S))) e

      outcome : (b : Bool) → r ≡ b
          → splitting ws period offset (length answer) (length scratch) ≡ split_outcome offset (chosen b (split_of (take n S)))
      unfolding splitting
      outcome b e =
          answered-done (split_checks ws period offset (length answer) (length scratch)) _ a.none ∙ ap (split_outcome offset) (first b e)

      pub none-shown : r ≡ false → SplitAs ws period offset answer answer scratch S' (Ok false)
      unfolding split_outcome reply_of buffer_after scratch_after split_reply works
      none-shown e =
          record {
            reply = rw (outcome false e);
            stored = rw (outcome false e);
            left = rw (outcome false e) zeros;
            works = λ q. let z : ◌≡◌ {A = ℕ} 0 1 = cc in absurd (omega arith);
            none = λ q. none-works (registers ws) period offset (pairs ws) (first false e);
          }

      -- the split found works, and passes a check
      module _ (e : r ≡ true) where
        is-list : IsAccepted ws
        is-list = none→accepted ws (both-pass (list_checks ws) _ a.none).0

        split-works : WorksAs ws period offset (timings offset (split_of (take n S)))
        unfolding works
        split-works =
            let c : List Bool = split_of (take n S) in
            let has = found-works (registers ws) period offset (pairs ws) c (first true e) in
            let size : length (timings offset c) ≡ registers ws = length-map c (time_of offset) ∙ has.1 in
            let limit = timings-below max_timing offset c (omega (arith, a.offset_in)) in
            record {
              size = size;
              two = two-timings offset c;
              meets = has.0;
              passes = admissible-passes ws period (timings offset c) is-list a.from a.upto size limit has.0;
            }

        pub split-shown : {answer' : List ℕ} → answer' ≡ over (timings offset (split_of (take n S))) answer
            → SplitAs ws period offset answer answer' scratch S' (Ok true)
        unfolding split_outcome reply_of buffer_after scratch_after split_reply
        split-shown h =
            record {
              reply = rw (outcome true e);
              stored = rw (outcome true e) h;
              left = rw (outcome true e) zeros;
              works = λ q. rw (h, take_at (timings offset (split_of (take n S))) _ (registers ws) split-works.size) split-works;
              none = λ q. let z : ◌≡◌ {A = ℕ} 0 1 = cc in absurd (omega arith);
            }
