-- `fill`: the numbers of all pairs fill the buffer from the front.
-- Invariant: the reader is at pair k of the list, and the numbers of the first k pairs stand there. What falls: the pairs that are left.
use Rattle.std.proofs.Common.{◌≡◌, ◌-◌, []}
use Rattle.buffers.proofs.FillLaws.{Filling}
use Rattle.list_format.specs.Lists.{pair_count, written_at}
use Rattle.list_format.specs.Read.{four_of}
use Rattle.read_list.proofs.fill.Given as goal

abbrev pub invariant-loop-p : goal.invariant-loop-p
invariant-loop-p l = record {
  same : l.reader.words.now ≡ l.words;
  read : Filling [] (λ k. four_of (written_at l.words k)) (pair_count l.words) l.initial.answer l.answer l.reader.at;
}

abbrev pub decreases-loop-p : goal.decreases-loop-p
decreases-loop-p l = pair_count l.words - l.reader.at
