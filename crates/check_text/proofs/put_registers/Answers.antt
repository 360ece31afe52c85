-- `put_registers`: launch and capture, each after its name.
use Rattle.text_pieces.proofs.PutLaws.{put_then}
use Rattle.check_text.proofs.put_registers.Goals as goal

pub returns : goal.returns
returns c = put_then c.put_named-next.ensures c.put_named.ensures
