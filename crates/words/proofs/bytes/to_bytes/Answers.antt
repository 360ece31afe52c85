-- `to_bytes`: the bytes of the first `count` words fill the buffer from the front.
-- Invariant `Filling`: the bytes of the first k words stand there.
use Rattle.std.proofs.Common.{◌*◌, refl, arith}
use Rattle.buffers.proofs.FillLaws.{filled_none, filling-start, filling-turn}
use Rattle.words.proofs.bytes.to_bytes.Goals as goal

pub loop-k-init : goal.loop-k-init
loop-k-init c = filling-start (filled_none _)

pub loop-k-preserved : goal.loop-k-preserved
loop-k-preserved c = let at = c.loop-k in
    filling-turn 4 (λ k. refl) (omega arith) at.invariant (omega arith) (4 * at.k) (omega arith) c.put_word.ensures
