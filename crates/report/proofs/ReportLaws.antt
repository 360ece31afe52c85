-- The text for a run of words, from what the call for its plan returned and stored; and that the largest buffers are enough.
use Prim.Native.Nat.{ℕ, ◌+◌, ◌*◌, ◌≤◌}
use mathlib.Core.List.{List, [], ◌∷◌, ◌++◌}
use mathlib.Core.Path.{◌≡◌}
use native.Mathlib.Omega.{arith}
use borrow.Author.Tests.{le-ltb}
use Rattle.timing.specs.Limits.{max_registers, scratch_places, max_scratch}
use Rattle.buffers.specs.Over.{over, zeros}
use Rattle.buffers.proofs.PadLaws.{zeros-size, over_zeros, run-same}
use Rattle.refusals.specs.Reply.{numbers, done, reply_of, buffer_after, told}
use Rattle.refusals.proofs.CheckLaws.{passes}
use Rattle.refusals.proofs.ReplyLaws.{then-done, told-refusal, told-numbers}
use Rattle.list_format.specs.Lists.{registers, pair_count, pairs, list_checks, IsAccepted}
use Rattle.list_format.proofs.ListLaws.{HeadIn, accepted→none, accepted-in, numbers-in}
use Rattle.free_laws.specs.Free.{common, free_period, free_schedule}
use Rattle.plan_laws.specs.Plan.{two_period, two_offset, two_timings}
use Rattle.planner.specs.PlanCall.{Planning, plan_call_checks, planning, plan_reply, PlanAs}
use Rattle.std.specs.Prelude.{Ok, Err}
use Rattle.refusals.specs.Checks.{number_of}
use Rattle.refusals.specs.declared.Refused.{Refused}
use Rattle.planner.specs.declared.Planned.{Planned}
use Rattle.text_pieces.specs.Pieces.{refused_width, Put}
use Rattle.text_pieces.proofs.PutLaws.{put-within}
use Rattle.report.specs.Report.{periods_width, register_width, plan_line, register_lines, plan_lines, refused_line, text_places, plan_of, report}
use Rattle.list_bytes.specs.ListBytes.{list_of}
use Rattle.list_bytes.proofs.LoadLaws.{none-refused}

plan-same : (n k : ℕ) (xs ys : List ℕ) → plan_lines n xs (over ys (zeros k)) ≡ plan_lines n xs ys
unfolding register_lines
plan-same n k xs ys = rw (run-same (plan_line n (over ys (zeros k))) (plan_line n ys) n (λ r l. rw (over_zeros ys k r, over_zeros ys k (n + r))))

-- the call returned r and left `answer` in the answer buffer; both buffers held zeros, with room for the largest list
module _ {ws answer scratch : List ℕ} {r : Planning} (a : PlanAs ws (zeros (2 * max_registers)) answer (zeros max_scratch) scratch r) where
  plan-reply : plan_reply r ≡ reply_of (plan_of ws)
  plan-reply = rw (zeros-size (2 * max_registers), zeros-size max_scratch) at a.reply

  -- the text of a refusal
  pub text-refused : {why : Refused} {next : ℕ} {was now : List ℕ} → r ≡ Err why
      → Put refused_width (refused_line (number_of why.refusal) why.place) was 0 now next
      → Put text_places (told refused_line (plan_lines (registers ws)) (plan_of ws)) was 0 now next
  unfolding plan_reply
  text-refused e put =
      rw (told-refusal refused_line (plan_lines (registers ws)) (plan_of ws) (rw e at plan-reply)) (put-within put (omega (arith, put.most)))

  module _ {p : Planned} (e : r ≡ Ok p) where
    plan-told : numbers (p.common ∷ p.free ∷ p.two ∷ p.offset ∷ []) ≡ reply_of (plan_of ws)
    unfolding plan_reply
    plan-told = rw e at plan-reply

    pub planned-in : HeadIn ws
    unfolding planning
    planned-in = (numbers-in ws (plan_call_checks (registers ws) (pair_count ws) (2 * max_registers) max_scratch) _ plan-told).head

    -- the text of a plan
    pub text-planned : {n next : ℕ} {was now : List ℕ} → n ≡ registers ws
        → Put (periods_width + register_width * n) (plan_lines n (p.common ∷ p.free ∷ p.two ∷ p.offset ∷ []) answer) was 0 now next
        → Put text_places (told refused_line (plan_lines (registers ws)) (plan_of ws)) was 0 now next
    text-planned {n} h put =
        let few : n ≤ max_registers = omega (arith, planned-in.most) in
        let stored : answer ≡ buffer_after (plan_of ws) (zeros (2 * max_registers)) = rw (zeros-size (2 * max_registers), zeros-size max_scratch) at a.stored in
        let same = plan-same (registers ws) (2 * max_registers) in
        rw (told-numbers refused_line (plan_lines (registers ws)) (zeros (2 * max_registers)) same (plan_of ws) plan-told, ← stored, ← h)
        (put-within put (omega (arith, put.most)))

-- ---- bytes that make no words

pub none-reported : (bs : List ℕ) → list_of bs ≡ [] → report bs ≡ refused_line 11 0
unfolding planning told report
none-reported bs e = rw (none-refused bs (plan_call_checks (registers (list_of bs)) (pair_count (list_of bs)) (2 * max_registers) max_scratch) _ e)

-- ---- room for the largest list is room for every list: no accepted list is refused for want of it

pub room-for-all : (ws : List ℕ) → IsAccepted ws
    → plan_of ws
    ≡ done
    (common (pairs ws) ∷ free_period (registers ws) (pairs ws) ∷ two_period (registers ws) (pairs ws) ∷ two_offset (registers ws) (pairs ws) ∷ [])
    (free_schedule (registers ws) (pairs ws) ++ two_timings (registers ws) (pairs ws))
unfolding planning
room-for-all ws a =
    let head = (accepted-in ws a).head in
    let answer : 2 * registers ws ≤ 2 * max_registers = omega (arith, head.most) in
    let scratch : scratch_places (registers ws) (pair_count ws) ≤ max_scratch = omega (arith, head.most, head.few) in
    then-done (list_checks ws) (plan_call_checks (registers ws) (pair_count ws) (2 * max_registers) (max_scratch)) _ (accepted→none ws a).none
    (passes (plan_call_checks (registers ws) (pair_count ws) (2 * max_registers) (max_scratch)) (le-ltb _ _ answer, (le-ltb _ _ scratch, tt)))
