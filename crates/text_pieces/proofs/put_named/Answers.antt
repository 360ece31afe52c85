-- `put_named`: a name, and after it its number.
use Rattle.text_pieces.proofs.PutLaws.{put_then}
use Rattle.text_pieces.proofs.put_named.Goals as goal

pub returns : goal.returns
returns c = put_then c.put_bytes-last.ensures c.put_number.ensures
