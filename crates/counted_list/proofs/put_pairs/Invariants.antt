-- `put_pairs`: the words of all pairs, three places each, after the head.
-- Invariant `Filling`: those of the first k pairs stand there.
use lib.ListN.{take}
use Rattle.buffers.proofs.FillLaws.{Filling}
use Rattle.list_format.specs.Lists.{pair_at}
use Rattle.list_format.specs.Write.{three_of}
use Rattle.counted_list.proofs.put_pairs.Given as goal

abbrev pub invariant-loop-k : goal.invariant-loop-k
invariant-loop-k l = Filling (take 1 l.initial.counted) (λ i. three_of (pair_at l.words i)) l.m l.initial.counted l.counted l.k
