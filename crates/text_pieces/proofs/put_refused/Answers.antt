-- `put_refused`: the number of a refusal after its name, and then the place after its name.
use Rattle.text_pieces.proofs.PutLaws.{put_then}
use Rattle.text_pieces.specs.Pieces.{refused_at}
use Rattle.text_pieces.proofs.put_refused.Goals as goal

pub returns : goal.returns
unfolding refused_at
returns c = put_then c.put_named-at.ensures c.put_named.ensures
