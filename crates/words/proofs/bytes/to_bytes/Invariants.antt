-- `to_bytes`: the bytes of the first `count` words fill the buffer from the front.
-- Invariant `Filling`: the bytes of the first k words stand there.
use Rattle.std.proofs.Common.{[], get_or}
use Rattle.buffers.proofs.FillLaws.{Filling}
use Rattle.words.specs.Bytes.{bytes_of}
use Rattle.words.proofs.bytes.to_bytes.Given as goal

abbrev pub invariant-loop-k : goal.invariant-loop-k
invariant-loop-k l = Filling [] (λ i. bytes_of (get_or l.words i 0)) l.count l.initial.bytes l.bytes l.k
