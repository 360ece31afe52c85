-- `put_register`: the register after its name, and the rest of the line.
use Rattle.text_pieces.proofs.PutLaws.{put_then}
use Rattle.why_text.proofs.put_register.Goals as goal

pub returns : goal.returns
returns c = put_then c.put_short-a.ensures c.put_bytes.ensures
