-- `put_signed`: a number that is not negative as it is, any other after a minus sign.
use mir.Syntax.{w64}
use mir.ValLaws.{to_z-of_z}
use Rattle.text_pieces.proofs.DecimalLaws.{put_up, put-down}
use Rattle.text_pieces.proofs.put_signed.Goals as goal

pub returns-then-z-ge0 : goal.returns-then-z-ge0
returns-then-z-ge0 c =
    put_up c.args.z c.args.end (to_z-of_z w64 c.args.z c.ranges.z) c.magnitude.ensures c.if-z-ge0.true
    c.put_number.ensures

pub returns : goal.returns
returns c =
    put-down c.args.z c.args.end (to_z-of_z w64 c.args.z c.ranges.z) c.magnitude-2.ensures c.if-z-ge0.false c.put_byte-last.ensures
    c.put_number-2.ensures
