-- `put_two`: two numbers make a line.
use Rattle.text_pieces.proofs.PutLaws.{put_then}
use Rattle.list_text.proofs.put_two.Goals as goal

pub returns : goal.returns
returns c = put_then c.put_number-first.ensures c.put_number.ensures
