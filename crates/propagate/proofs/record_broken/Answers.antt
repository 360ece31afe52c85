-- `record_broken`: the flags of all pairs, four to a pair.
-- Invariant `Filling`: those of the first k pairs are stored.
use mathlib.Core.Path.{refl}
use Prim.Native.Nat.{◌*◌}
use native.Mathlib.Omega.{arith}
use Rattle.buffers.proofs.FillLaws.{filled_none, filling-start, filling-turn}
use Rattle.timing.specs.Limits.{per_pair}
use Rattle.propagate.proofs.record_broken.Goals as goal

pub loop-k-init : goal.loop-k-init
loop-k-init c = filling-start (filled_none _)

pub loop-k-preserved : goal.loop-k-preserved
loop-k-preserved c =
    let l = c.loop-k in
    filling-turn per_pair (λ k. refl) (omega (arith, c.requires)) l.invariant c.loop-k-test.true (per_pair * l.k) (omega arith)
    (rw c.pair.ensures.same at c.record_pair.ensures)
