-- `put_refusal_in`: the number and the place of a refusal, the line of the text, and then what it means.
use Rattle.std.proofs.Common.{arith}
use Rattle.text_pieces.proofs.PutLaws.{put_then, put-within}
use Rattle.refusal_text.specs.RefusalText.{refusal_line_in}
use Rattle.refusal_text.proofs.put_refusal_in.Goals as goal

pub returns : goal.returns
unfolding refusal_line_in
returns c =
    let put = put_then c.put_refused-a.ensures
    (put_then c.put_named-b.ensures (put_then c.put_bytes-c.ensures c.put_meaning.ensures)) in
    put-within put (omega (arith, put.most))
