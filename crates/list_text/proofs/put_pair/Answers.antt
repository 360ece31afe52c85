-- `put_pair`: four numbers make the line of a pair.
use Rattle.text_pieces.proofs.PutLaws.{put_then}
use Rattle.list_text.proofs.put_pair.Goals as goal

pub returns : goal.returns
returns c =
    put_then c.put_number-first.ensures
    (put_then c.put_number-second.ensures (put_then c.put_number-third.ensures c.put_number.ensures))
