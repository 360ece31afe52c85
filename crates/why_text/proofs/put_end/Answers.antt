-- `put_end`: the name and the register, and then the choice.
use Rattle.text_pieces.proofs.PutLaws.{put_then}
use Rattle.why_text.proofs.put_end.Goals as goal

pub returns : goal.returns
returns c = put_then c.put_short-a.ensures c.put_choice.ensures
