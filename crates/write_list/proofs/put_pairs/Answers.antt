-- `put_pairs`: the words of all pairs, three places each, after the head and the words of needs.
-- Invariant `Filling`: those of the first k pairs stand there.
use Prim.Native.Nat.{◌+◌}
use mathlib.Core.Path.{◌≡◌, refl}
use native.Mathlib.Omega.{arith}
use lib.ListN.{length, take}
use lib.Seq.{length-take-le}
use Rattle.buffers.proofs.FillLaws.{filled-self, filling-start, filling-turn}
use Rattle.list_format.specs.Lists.{place_by}
use Rattle.write_list.proofs.put_pairs.Goals as goal

pub loop-k-init : goal.loop-k-init
loop-k-init c = filling-start (filled-self (1 + c.args.count) _ (omega arith))

pub loop-k-preserved : goal.loop-k-preserved
loop-k-preserved c =
    let at = c.loop-k in
    let count = c.args.count in
    let size : length (take (1 + count) c.args.answer.now) ≡ 1 + count = length-take-le (1 + count) c.args.answer.now (omega arith) in
    filling-turn 3 (λ k. refl) (omega (arith, size)) at.invariant (omega arith) (place_by count at.k) (omega (arith, size))
    (rw (c.given_pair-p.ensures, c.pair_place.ensures) at c.put.ensures)
