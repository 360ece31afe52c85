-- `put_caused`: the number and the place of a refusal, and then the words for its cause.
use Rattle.std.proofs.Common.{arith}
use Rattle.text_pieces.proofs.PutLaws.{put_then, put-within}
use Rattle.refusal_text.specs.RefusalText.{caused_line}
use Rattle.refusal_text.proofs.put_caused.Goals as goal

pub returns : goal.returns
unfolding caused_line
returns c =
    let put = put_then c.put_refused-a.ensures c.put_meaning.ensures in
    put-within put (omega (arith, put.most))
