-- `put_failed`: the first pair that breaks a rule, and then the smallest margin.
use Rattle.text_pieces.proofs.PutLaws.{put_then}
use Rattle.check_text.specs.CheckText.{answer_text}
use Rattle.check_text.proofs.put_failed.Goals as goal

pub returns : goal.returns
unfolding answer_text
returns c = put_then c.put_broken-a.ensures c.put_smallest.ensures
