-- `turn`: one byte more, with the number that it ends stored; there is room, for a step counts no number too many.
use native.Mathlib.Omega.{arith}
use Rattle.scan.proofs.StateLaws.{step-moves, fair-in}
use Rattle.scan.proofs.turn.Goals as goal

pub keep-requires : goal.keep-requires
keep-requires c =
    let moved = step-moves _ (fair-in c.requires.0) c.args.byte in
    rw c.step-next.ensures (omega (arith, moved.most, c.requires.1))
