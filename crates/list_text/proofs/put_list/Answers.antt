-- `put_list`: the counts of registers and of pairs in a line, then the lines of needs, if there are any, and then those of the pairs.
use native.Mathlib.Omega.{arith}
use Rattle.text_pieces.proofs.PutLaws.{put_then, put-within}
use Rattle.list_text.specs.ListText.{text_of}
use Rattle.list_text.proofs.put_list.Goals as goal

pub returns : goal.returns
unfolding text_of
returns c =
    let put = put_then c.put_two-first.ensures (put_then c.put_block-second.ensures c.put_pairs.ensures) in
    put-within put (omega (arith, put.most))
