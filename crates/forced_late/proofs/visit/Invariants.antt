-- `visit`: along the ends at a register. Invariant `Grew`.
use Rattle.forced_late.specs.Forest.{Grew}
use Rattle.forced_late.proofs.visit.Given as goal

abbrev pub invariant-loop-end : goal.invariant-loop-end
invariant-loop-end l = Grew l.list.words.now l.list.registers l.initial.scratch l.scratch
