-- The counts of both lists are those of the walk.
use Rattle.std.proofs.Common.{arith}
use Rattle.list_format.proofs.ListLaws.{accepted-in}
use Rattle.pooling.proofs.count_pooled.Goals as goal

pub returns : goal.returns
returns c = (
  c.count_walked.ensures.0,
  omega (
    arith,
    c.count_walked.ensures.1,
    c.pair_count-m.ensures,
    c.pair_count-k.ensures,
    (accepted-in c.args.first.words.now c.requires.0).head.few,
    (accepted-in c.args.second.words.now c.requires.1).head.few,
  ),
)
