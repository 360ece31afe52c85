-- The head and the needs, then the pairs, then the end word (`assembled` of `relist`).
use Rattle.std.proofs.Common.{arith}
use Rattle.list_format.proofs.ListLaws.{accepted-in}
use Rattle.relist.proofs.RelistLaws.{assembled}
use Rattle.merging.specs.Merge.{pooled_pairs}
use Rattle.pooling.proofs.PoolLaws.{pooled-own}
use Rattle.pooling.proofs.PutLaws.{one-chip, front-needs}
use Rattle.pooling.proofs.put_pooled.Goals as goal

pub put_front-requires : goal.put_front-requires
put_front-requires c =
    let g = c.requires.1 in
    let l = accepted-in c.args.first.words.now g.first in
    ((omega (arith, c.requires.0, l.head.most), omega (arith, g.few)), (c.args.first.inside, omega (arith, g.places)))

pub pair_place-requires : goal.pair_place-requires
pair_place-requires c = (omega (arith, front-needs c.requires.1), omega (arith, c.requires.1.few))

pub returns : goal.returns
returns c =
    let ws = c.args.first.words.now in
    let vs = c.args.second.words.now in
    let g = c.requires.1 in
    assembled ws (accepted-in ws g.first) (pooled_pairs ws vs) (omega (arith, g.count_is, g.few)) (pooled-own ws vs (one-chip g)) g.needs_are
    g.count_is c.args.answer.now _ _ _ g.places (rw c.requires.0 at c.put_front.ensures)
    c.put_pairs.ensures (rw c.pair_place.ensures at c.put_end.ensures)
