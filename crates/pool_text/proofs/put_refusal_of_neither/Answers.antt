-- `put_refusal_of_neither`: the number and the place of a refusal, and then what it means.
use Rattle.std.proofs.Common.{arith}
use Rattle.text_pieces.proofs.PutLaws.{put_then, put-within}
use Rattle.pool_text.specs.PoolText.{refusal_line_of_neither}
use Rattle.pool_text.proofs.put_refusal_of_neither.Goals as goal

pub returns : goal.returns
unfolding refusal_line_of_neither
returns c =
    let put = put_then c.put_refused-a.ensures (rw c.pool_words.ensures.is at c.put_bytes.ensures) in
    put-within put (omega (arith, put.most, c.pool_words.ensures.short))
