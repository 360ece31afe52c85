-- `to_words`: the first `count` words of the bytes fill the buffer from the front.
-- Invariant `Filling`: the first k words stand there.
use Rattle.std.proofs.Common.{[], ◌∷◌}
use Rattle.buffers.proofs.FillLaws.{Filling}
use Rattle.words.specs.Bytes.{word_at}
use Rattle.words.proofs.bytes.to_words.Given as goal

abbrev pub invariant-loop-k : goal.invariant-loop-k
invariant-loop-k l = Filling [] (λ i. word_at l.bytes i ∷ []) l.count l.initial.words l.words l.k
