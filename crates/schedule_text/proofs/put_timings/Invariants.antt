-- `put_timings`: a line for each register.
-- Invariant `Listing`: the lines of the first r registers are stored.
use Rattle.text_pieces.proofs.PutLaws.{Listing}
use Rattle.schedule_text.specs.ScheduleText.{timing_width, timing_line}
use Rattle.schedule_text.proofs.put_timings.Given as goal

abbrev pub invariant-loop-r : goal.invariant-loop-r
invariant-loop-r l = Listing timing_width (timing_line l.timings) l.n l.initial.text l.at l.text l.last l.r
