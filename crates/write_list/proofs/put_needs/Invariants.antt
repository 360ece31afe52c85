-- `put_needs`: the words of needs, one place each, after the head.
-- Invariant `Filling`: those of the first r registers stand there.
use lib.ListN.{take}
use Rattle.buffers.proofs.FillLaws.{Filling}
use Rattle.list_format.specs.Write.{one_of}
use Rattle.write_list.proofs.put_needs.Given as goal

abbrev pub invariant-loop-r : goal.invariant-loop-r
invariant-loop-r l = Filling (take 1 l.initial.answer) (one_of l.needs) l.count l.initial.answer l.answer l.r
