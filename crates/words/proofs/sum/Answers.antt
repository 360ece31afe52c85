-- `sum`: the words added up, carries out of the word dropped.
-- Invariant: `sum` is the wrapped sum of the words so far.
use Rattle.std.proofs.Common.{arith, rules}
use Rattle.words.specs.Word.{total}
use Rattle.words.proofs.WordLaws.{sum_more}
use Rattle.words.proofs.sum.Goals as goal

pub loop-w-init : goal.loop-w-init
unfolding total
loop-w-init c = search rules

pub loop-w-preserved : goal.loop-w-preserved
loop-w-preserved c =
    sum_more c.args.words.now c.loop-w.w-index _ (omega arith) c.loop-w.invariant
