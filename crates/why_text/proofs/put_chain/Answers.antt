-- `put_chain`: where the chain leads, and then its steps.
use Rattle.text_pieces.proofs.PutLaws.{put_then}
use Rattle.why_text.proofs.put_chain.Goals as goal

pub returns : goal.returns
returns c = put_then c.put_way-a.ensures c.put_steps.ensures
