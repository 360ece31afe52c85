-- `put_needs`: the words of needs, one place each, after the head.
-- Invariant `Filling`: those of the first r registers stand there.
use Prim.Native.Nat.{◌+◌, ◌<◌}
use mathlib.Core.Path.{◌≡◌, refl}
use native.Mathlib.Omega.{arith}
use lib.ListN.{length, take}
use lib.Seq.{length-take-le}
use Rattle.buffers.proofs.FillLaws.{filled-self, filling-start, filling-size, filling-turn, set-put}
use Rattle.write_list.proofs.put_needs.Goals as goal

pub loop-r-init : goal.loop-r-init
loop-r-init c = filling-start (filled-self 1 _ (omega arith))

pub loop-r-preserved : goal.loop-r-preserved
loop-r-preserved c =
    let at = c.loop-r in
    let one : length (take 1 c.args.answer.now) ≡ 1 = length-take-le 1 c.args.answer.now (omega arith) in
    let inside : 1 + at.r < length at.answer = omega (arith, filling-size at.invariant) in
    filling-turn 1 (λ r. refl) (omega (arith, one)) at.invariant (omega arith) (1 + at.r) (omega (arith, one))
    (rw c.needs_word.ensures (set-put at.answer (1 + at.r) _ inside))
