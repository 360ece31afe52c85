-- `put_pairs`: the words of all pairs, three places each, after the head.
-- Invariant `Filling`: those of the first k pairs stand there.
use mathlib.Core.Path.{◌≡◌, refl}
use native.Mathlib.Omega.{arith}
use lib.ListN.{length, take}
use lib.Seq.{length-take-le}
use Rattle.buffers.proofs.FillLaws.{filled-self, filling-start, filling-turn}
use Rattle.list_format.specs.Lists.{place_by}
use Rattle.counted_list.proofs.put_pairs.Goals as goal

pub loop-k-init : goal.loop-k-init
loop-k-init c = filling-start (filled-self 1 _ (omega (arith, c.requires.room)))

pub loop-k-preserved : goal.loop-k-preserved
loop-k-preserved c =
    let at = c.loop-k in
    let size : length (take 1 c.args.counted.now) ≡ 1 = length-take-le 1 c.args.counted.now (omega (arith, c.requires.room)) in
    filling-turn 3 (λ k. refl) (omega (arith, size, c.requires.room)) at.invariant (omega arith) (place_by 0 at.k) (omega (arith, size))
    (rw (c.pair_at-p.ensures.same, c.pair_place.ensures) at c.put.ensures)
