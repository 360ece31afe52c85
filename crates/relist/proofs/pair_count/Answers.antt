-- An accepted list has a head word.
use Rattle.std.proofs.Common.{arith}
use Rattle.list_format.proofs.ListLaws.{accepted-in}
use Rattle.relist.proofs.pair_count.Goals as goal

pub bounds-words-0 : goal.bounds-words-0
bounds-words-0 c = omega (arith, (accepted-in c.args.words.now c.requires).head.size)
