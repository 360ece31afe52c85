-- `put_admissible`: that the schedule is admissible, and then its smallest margin.
use native.Mathlib.Omega.{arith}
use Rattle.text_pieces.proofs.PutLaws.{put_then, put-within}
use Rattle.check_text.specs.CheckText.{answer_text}
use Rattle.check_text.proofs.put_admissible.Goals as goal

pub returns : goal.returns
unfolding answer_text
returns c =
    let both = put_then c.put_bytes-a.ensures c.put_smallest.ensures in
    put-within both (omega (arith, both.most))
