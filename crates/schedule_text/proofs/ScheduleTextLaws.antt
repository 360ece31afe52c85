-- From what a call promises to the text that is stored: for the free schedule and for a split, a refusal and each result.
use Prim.Native.Nat.{ℕ, ◌+◌, ◌*◌, ◌≤◌}
use mathlib.Core.List.{List, [], ◌∷◌, ◌++◌}
use mathlib.Core.Path.{◌≡◌, ◌∙◌}
use native.Mathlib.Omega.{arith}
use Rattle.timing.specs.Limits.{max_registers, max_scratch}
use Rattle.buffers.specs.Over.{over, zeros}
use Rattle.buffers.proofs.PadLaws.{zeros-size, over_zeros, run-same}
use Rattle.refusals.specs.Reply.{numbers, Outcome, reply_of, buffer_after, told}
use Rattle.refusals.proofs.ReplyLaws.{told-refusal, told-numbers}
use Rattle.list_format.specs.Lists.{registers, pair_count}
use Rattle.list_format.proofs.ListLaws.{HeadIn, numbers-in}
use Rattle.free_schedule.specs.FreeCall.{Freed, freeing, free_reply, room_checks, FreeAs}
use Rattle.std.specs.Prelude.{true, false, Ok, Err}
use Rattle.refusals.specs.Checks.{number_of}
use Rattle.refusals.specs.declared.Refused.{Refused}
use Rattle.free_schedule.specs.declared.Periods.{Periods}
use Rattle.split.specs.Splitting.{Splitting, split_call_checks, splitting, split_reply, SplitAs}
use Rattle.text_pieces.specs.Pieces.{Put, letters}
use Rattle.text_pieces.specs.Saying.{SaidAs, trouble_of}
use Rattle.text_pieces.proofs.SaidLaws.{said-text, said-trouble}
use Rattle.refusal_text.specs.RefusalText.{line_width, caused_line, refusal_line, refused_saying}
use Rattle.schedule_text.specs.ScheduleText.{timing_width, free_width, split_width, timing_line, timing_lines, schedule_places, free_line, free_said}
use Rattle.schedule_text.specs.ScheduleText.{split_cause, split_refused, split_said}

lines-over : (n k : ℕ) (xs : List ℕ) → timing_lines n (over xs (zeros k)) ≡ timing_lines n xs
unfolding timing_lines
lines-over n k xs = run-same (timing_line (over xs (zeros k))) (timing_line xs) n (λ r l. rw (over_zeros xs k r))

-- ---- the free schedule

free-same : (n k : ℕ) (xs ys : List ℕ) → free_said n xs (over ys (zeros k)) ≡ free_said n xs ys
free-same n k xs ys = rw (lines-over n k ys)

-- the call with room for the largest list
abbrev free_of : List ℕ → Outcome
free_of ws = freeing ws max_registers

module _ {ws now : List ℕ} {r : Freed} (a : FreeAs ws (zeros max_registers) now r) where
  free-reply : free_reply r ≡ reply_of (free_of ws)
  free-reply = rw (zeros-size max_registers) at a.reply

  pub free-refused : {why : Refused} {next : ℕ} {text text' : List ℕ} → r ≡ Err why
      → Put line_width (refusal_line (number_of why.refusal) why.place) text 0 text' next
      → SaidAs schedule_places (told refused_saying (free_said (registers ws)) (free_of ws)) text text' (Err (trouble_of next))
  unfolding free_reply
  free-refused e put =
      rw (told-refusal refused_saying (free_said (registers ws)) (free_of ws) (rw e at free-reply)) (said-trouble put (omega arith))

  module _ {p : Periods} (e : r ≡ Ok p) where
    free-told : numbers (p.common ∷ p.free ∷ []) ≡ reply_of (free_of ws)
    unfolding free_reply
    free-told = rw e at free-reply

    pub free_in : HeadIn ws
    unfolding freeing
    free_in = (numbers-in ws (room_checks (registers ws) max_registers) _ free-told).head

    pub free-periods : {n next : ℕ} {text text' : List ℕ} → n ≡ registers ws
        → Put (free_width + timing_width * n) (free_line p.common p.free ++ timing_lines n now) text 0 text' next
        → SaidAs schedule_places (told refused_saying (free_said (registers ws)) (free_of ws)) text text' (Ok next)
    free-periods {n} h put =
        let few : n ≤ max_registers = omega (arith, free_in.most) in
        let stored : now ≡ buffer_after (free_of ws) (zeros max_registers) = rw (zeros-size max_registers) at a.stored in
        let same = free-same (registers ws) max_registers in
        rw (told-numbers refused_saying (free_said (registers ws)) (zeros max_registers) same (free_of ws) free-told, ← stored, ← h)
        (said-text put (omega arith))

-- ---- a split

split-same : (n k : ℕ) (xs ys : List ℕ) → split_said n xs (over ys (zeros k)) ≡ split_said n xs ys
split-same n k xs ys = rw (lines-over n k ys)

-- the call with room for the largest list
abbrev split_of : List ℕ → ℕ → ℕ → Outcome
split_of ws t s = splitting ws t s max_registers max_scratch

module _ {ws now scratch' : List ℕ} {t s : ℕ} {r : Splitting} (a : SplitAs ws t s (zeros max_registers) now (zeros max_scratch) scratch' r) where
  split-reply : split_reply r ≡ reply_of (split_of ws t s)
  split-reply = rw (zeros-size max_registers, zeros-size max_scratch) at a.reply

  pub split-refused : {why : Refused} {next : ℕ} {text text' : List ℕ} → r ≡ Err why
      → Put line_width (caused_line (number_of why.refusal) why.place (split_cause t (number_of why.refusal))) text 0 text' next
      → SaidAs schedule_places (told (split_refused t) (split_said (registers ws)) (split_of ws t s)) text text' (Err (trouble_of next))
  unfolding split_reply
  split-refused e put =
      rw (told-refusal (split_refused t) (split_said (registers ws)) (split_of ws t s) (rw e at split-reply)) (said-trouble put (omega arith))

  split_by : {xs : List ℕ} → numbers xs ≡ split_reply r → told (split_refused t) (split_said (registers ws)) (split_of ws t s)
      ≡ split_said (registers ws) xs now
  split_by e =
      let stored : now ≡ buffer_after (split_of ws t s) (zeros max_registers) = rw (zeros-size max_registers, zeros-size max_scratch) at a.stored in
      let same = split-same (registers ws) max_registers in
      rw stored (told-numbers (split_refused t) (split_said (registers ws)) (zeros max_registers) same (split_of ws t s) (e ∙ split-reply))

  pub split-none : {next : ℕ} {text text' : List ℕ} → r ≡ Ok false → Put 9 (letters "no split\n") text 0 text' next
      → SaidAs schedule_places (told (split_refused t) (split_said (registers ws)) (split_of ws t s)) text text' (Ok next)
  unfolding split_reply
  split-none e put = rw (split_by {xs = 0 ∷ []} (rw e)) (said-text put (omega arith))

  module _ (e : r ≡ Ok true) where
    split-told : numbers (1 ∷ []) ≡ split_reply r
    unfolding split_reply
    split-told = rw e

    pub split-in : HeadIn ws
    unfolding splitting
    split-in = (numbers-in ws (split_call_checks (registers ws) (pair_count ws) t s max_registers max_scratch) _ (split-told ∙ split-reply)).head

    pub split-found : {n next : ℕ} {text text' : List ℕ} → n ≡ registers ws
        → Put (split_width + timing_width * n) (letters "split\n" ++ timing_lines n now) text 0 text' next
        → SaidAs schedule_places (told (split_refused t) (split_said (registers ws)) (split_of ws t s)) text text' (Ok next)
    split-found {n} h put =
        let few : n ≤ max_registers = omega (arith, split-in.most) in
        rw (split_by {xs = 1 ∷ []} split-told, ← h) (said-text put (omega arith))
