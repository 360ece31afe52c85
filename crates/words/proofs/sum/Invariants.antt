-- `sum`: the words added up, carries out of the word dropped.
-- Invariant: `sum` is the wrapped sum of the words so far.
use Rattle.std.proofs.Common.{◌≡◌, take}
use Rattle.words.specs.Word.{wrapped_sum}
use Rattle.words.proofs.sum.Given as goal

abbrev pub invariant-loop-w : goal.invariant-loop-w
invariant-loop-w l = l.sum ≡ wrapped_sum (take l.w-index l.words)
