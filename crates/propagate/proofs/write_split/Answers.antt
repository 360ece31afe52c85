-- `write_split`: the offset for each of the first n registers that is marked late, 0 for any other.
-- Invariant `Filling`: the timings of the first i are stored.
use mathlib.Core.Path.{refl}
use Prim.Native.Nat.{◌<◌}
use native.Mathlib.Omega.{arith}
use lib.ListN.{length}
use Rattle.buffers.proofs.FillLaws.{filled_none, filling-start, filling-size, filling-end, filling-turn, set-put}
use Rattle.propagate.proofs.StoreLaws.{timings-run}
use Rattle.propagate.proofs.write_split.Goals as goal

pub loop-i-init : goal.loop-i-init
loop-i-init c = filling-start (filled_none _)

pub loop-i-preserved : goal.loop-i-preserved
loop-i-preserved c =
    let l = c.loop-i in
    let inside : l.i < length l.answer = omega (arith, filling-size l.invariant) in
    filling-turn 1 (λ k. refl) (omega arith) l.invariant (omega arith) l.i (omega arith) (rw c.time_of.ensures (set-put l.answer l.i _ inside))

pub returns : goal.returns
returns c =
    let a = c.args in
    rw (timings-run a.offset a.n a.marks.now c.requires.0) at (filling-end c.loop-i.invariant (omega arith))
