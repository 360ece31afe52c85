-- `put_pairs`: the words of all pairs, three places each, after the head and the words of needs.
-- Invariant `Filling`: those of the first k pairs stand there.
use Prim.Native.Nat.{◌+◌}
use lib.ListN.{take}
use Rattle.buffers.proofs.FillLaws.{Filling}
use Rattle.list_format.specs.Write.{given_pair, three_of}
use Rattle.write_list.proofs.put_pairs.Given as goal

abbrev pub invariant-loop-k : goal.invariant-loop-k
invariant-loop-k l = Filling (take (1 + l.count) l.initial.answer) (λ i. three_of (given_pair l.numbers i)) l.m l.initial.answer l.answer l.k
