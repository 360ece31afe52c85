-- `put_refusal_of_one`: the number and the place of a refusal, the list, and then what it means.
use Rattle.std.proofs.Common.{arith}
use Rattle.text_pieces.proofs.PutLaws.{put_then, put-within}
use Rattle.pool_text.specs.PoolText.{refusal_line_of_one}
use Rattle.pool_text.proofs.put_refusal_of_one.Goals as goal

pub returns : goal.returns
unfolding refusal_line_of_one
returns c =
    let put = put_then c.put_refused-a.ensures
    (put_then c.put_named-b.ensures (put_then c.put_bytes-c.ensures (rw c.pool_words.ensures.is at c.put_bytes.ensures))) in
    put-within put (omega (arith, put.most, c.pool_words.ensures.short))
