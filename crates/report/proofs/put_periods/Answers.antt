-- `put_periods`: four names with their numbers make line one.
use Rattle.text_pieces.proofs.PutLaws.{put_then}
use Rattle.report.specs.Report.{periods_line}
use Rattle.report.proofs.put_periods.Goals as goal

pub returns : goal.returns
unfolding periods_line
returns c =
    put_then c.put_named-a.ensures (put_then c.put_named-b.ensures (put_then c.put_named-c.ensures c.put_named.ensures))
