-- `line_of`: the line in the part of the text after its mark.
use Rattle.scan.proofs.ScanLaws.{mark-fits}
use Rattle.scan.proofs.line_of.Goals as goal

pub slice_bounds-line_in-count : goal.slice_bounds-line_in-count
slice_bounds-line_in-count c = rw c.mark_size-from.ensures (mark-fits _)

pub slice_bounds-line_in-start : goal.slice_bounds-line_in-start
slice_bounds-line_in-start c = rw c.mark_size-from.ensures (mark-fits _)
