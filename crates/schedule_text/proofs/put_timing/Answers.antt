-- `put_timing`: a register and its timing make a line.
use Rattle.text_pieces.proofs.PutLaws.{put_then}
use Rattle.schedule_text.proofs.put_timing.Goals as goal

pub returns : goal.returns
returns c = put_then c.put_number-a.ensures c.put_number.ensures
