-- `put_registers`: a line for each register.
-- Invariant `Listing`: the lines of the first r registers are stored.
use Rattle.text_pieces.proofs.PutLaws.{Listing}
use Rattle.report.specs.Report.{register_width, plan_line}
use Rattle.report.proofs.put_registers.Given as goal

abbrev pub invariant-loop-r : goal.invariant-loop-r
invariant-loop-r l = Listing register_width (plan_line l.n l.answer) l.n l.initial.text l.at l.text l.last l.r
