-- `put_registers`: a line for each register.
-- Invariant `Listing`: the lines of the first r registers are stored.
use native.Mathlib.Omega.{arith}
use Rattle.text_pieces.proofs.PutLaws.{listing_start, listing-turn, listing-end}
use Rattle.report.specs.Report.{register_lines}
use Rattle.report.proofs.put_registers.Goals as goal

pub loop-r-init : goal.loop-r-init
unfolding register_lines
loop-r-init c = listing_start (omega arith)

pub loop-r-preserved : goal.loop-r-preserved
unfolding register_lines
loop-r-preserved c = listing-turn c.loop-r.invariant (omega arith) c.put_register-last.ensures

pub returns : goal.returns
unfolding register_lines
returns c = listing-end c.loop-r.invariant (omega arith)
