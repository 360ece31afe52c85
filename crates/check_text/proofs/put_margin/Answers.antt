-- `put_margin`: the name, the number with its sign, and the words for the rule.
use mir.Syntax.{w64}
use mir.ValLaws.{to_z-of_z}
use Rattle.text_pieces.proofs.PutLaws.{put_then}
use Rattle.check_text.proofs.put_margin.Goals as goal

pub returns : goal.returns
returns c =
    rw (to_z-of_z w64 c.args.margin c.ranges.margin) at
    (put_then c.put_bytes-a.ensures (put_then c.put_signed-b.ensures c.put_of.ensures))
