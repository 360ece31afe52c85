-- `put_needs`: a line for each register.
-- Invariant `Listing`: the lines of the first r registers are stored.
use Rattle.text_pieces.proofs.PutLaws.{Listing}
use Rattle.list_text.specs.ListText.{two_width, needs_line}
use Rattle.list_text.proofs.put_needs.Given as goal

abbrev pub invariant-loop-r : goal.invariant-loop-r
invariant-loop-r l = Listing two_width (needs_line l.needs) l.n l.initial.text l.at l.text l.last l.r
