-- `put_register`: a register, its free timing and its two-timing value make a line.
use Rattle.text_pieces.proofs.PutLaws.{put_then}
use Rattle.report.proofs.put_register.Goals as goal

pub returns : goal.returns
returns c =
    put_then c.put_number-a.ensures (put_then c.put_number-b.ensures c.put_number.ensures)
