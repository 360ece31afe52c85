-- `fill_needs`: hold and setup of all registers, two places each, from `at` on.
-- Invariant `Filling`: those of the first r registers stand there.
use lib.ListN.{take}
use Rattle.buffers.proofs.FillLaws.{Filling}
use Rattle.list_format.specs.Lists.{two_at}
use Rattle.read_list.proofs.fill_needs.Given as goal

abbrev pub invariant-loop-r : goal.invariant-loop-r
invariant-loop-r l = Filling (take l.at l.initial.answer) (two_at l.words) l.n l.initial.answer l.answer l.r
