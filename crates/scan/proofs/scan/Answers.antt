-- `scan`: a text that is too long, and the part of any other after its mark. One law for each.
use mathlib.Core.Path.{ap}
use Rattle.std.specs.Prelude.{Err}
use Rattle.scan.proofs.ScanLaws.{scan-long, scan-short, mark-fits}
use Rattle.scan.proofs.scan.Goals as goal

pub returns-then-bytes-gt-TEXT_BYTES : goal.returns-then-bytes-gt-TEXT_BYTES
returns-then-bytes-gt-TEXT_BYTES c = scan-long c.if-bytes-gt-TEXT_BYTES.true (ap Err c.fault_at.ensures)

pub slice_bounds-scan_text-count : goal.slice_bounds-scan_text-count
slice_bounds-scan_text-count c = rw c.mark_size-from.ensures (mark-fits _)

pub slice_bounds-scan_text-start : goal.slice_bounds-scan_text-start
slice_bounds-scan_text-start c = rw c.mark_size-from.ensures (mark-fits _)

pub returns : goal.returns
returns c =
    scan-short c.if-bytes-gt-TEXT_BYTES.false c.mark_size-from.ensures c.scan_text.ensures
