-- `to_words`: the first `count` words of the bytes fill the buffer from the front.
-- Invariant `Filling`: the first k words stand there.
use Rattle.std.proofs.Common.{◌<◌, length, refl, arith}
use Rattle.buffers.proofs.FillLaws.{filled_none, filling-start, filling-size, filling-turn, set-put}
use Rattle.words.proofs.bytes.to_words.Goals as goal

pub loop-k-init : goal.loop-k-init
loop-k-init c = filling-start (filled_none _)

pub loop-k-preserved : goal.loop-k-preserved
loop-k-preserved c = let at = c.loop-k in
    let inside : at.k < length at.words = omega (arith, filling-size at.invariant) in
    filling-turn 1 (λ k. refl) (omega arith) at.invariant (omega arith) at.k (omega arith)
    (rw c.from_bytes.ensures (set-put at.words at.k _ inside))
