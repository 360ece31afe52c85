-- `put_timings`: a line for each register.
-- Invariant `Listing`: the lines of the first r registers are stored.
use native.Mathlib.Omega.{arith}
use Rattle.text_pieces.proofs.PutLaws.{listing_start, listing-turn, listing-end}
use Rattle.schedule_text.specs.ScheduleText.{timing_lines}
use Rattle.schedule_text.proofs.put_timings.Goals as goal

pub loop-r-init : goal.loop-r-init
loop-r-init c = listing_start (omega arith)

pub loop-r-preserved : goal.loop-r-preserved
loop-r-preserved c = listing-turn c.loop-r.invariant (omega arith) c.put_timing-last.ensures

pub returns : goal.returns
unfolding timing_lines
returns c = listing-end c.loop-r.invariant (omega arith)
