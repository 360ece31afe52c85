-- `put_fault`: where the text is at fault, and then what is wrong with it.
use Rattle.text_pieces.proofs.PutLaws.{put_then}
use Rattle.refusal_text.specs.RefusalText.{fault_line}
use Rattle.refusal_text.proofs.put_fault.Goals as goal

pub returns : goal.returns
unfolding fault_line
returns c = put_then c.put_place-a.ensures c.put_trouble.ensures
