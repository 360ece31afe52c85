-- `put_pair`: the pair's number, a space, and its registers.
use Rattle.text_pieces.proofs.PutLaws.{put_then}
use Rattle.check_text.proofs.put_pair.Goals as goal

pub returns : goal.returns
returns c =
    put_then c.put_named-a.ensures (put_then c.put_bytes-b.ensures c.put_registers.ensures)
