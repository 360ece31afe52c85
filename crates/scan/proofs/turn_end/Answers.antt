-- `turn_end`: the end of the text, with the number that it ends stored.
use native.Mathlib.Omega.{arith}
use Rattle.scan.proofs.StateLaws.{finish-moves, fair-in}
use Rattle.scan.proofs.turn_end.Goals as goal

pub keep-requires : goal.keep-requires
keep-requires c =
    let moved = finish-moves _ (fair-in c.requires.0) in
    rw c.finish-next.ensures (omega (arith, moved.most, c.requires.1))
