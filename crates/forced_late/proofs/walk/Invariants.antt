-- `walk`: from the roots on, register by register. Invariant `Grew`.
use Rattle.forced_late.specs.Forest.{Grew}
use Rattle.forced_late.proofs.walk.Given as goal

abbrev pub invariant-loop-i : goal.invariant-loop-i
invariant-loop-i l = Grew l.list.words.now l.list.registers l.initial.scratch l.scratch
