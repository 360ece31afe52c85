-- `settle`: sweeps until nothing is marked. What falls: the registers without a depth, for a sweep that goes on has marked one.
use lib.ListN.{take}
use Rattle.split_laws.specs.Marks.{unset}
use Rattle.forced_late.specs.Forest.{Grew}
use Rattle.forced_late.proofs.settle.Given as goal

abbrev pub invariant-loop : goal.invariant-loop
invariant-loop l = Grew l.list.words.now l.list.registers l.initial.scratch l.scratch

abbrev pub decreases-loop : goal.decreases-loop
decreases-loop l = unset (take l.list.registers l.scratch)
