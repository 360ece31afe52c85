-- `propagate`: true where no pair forces more, false where no split that works agrees with the marks.
-- Invariant `Carried`: each split that works and agreed at the start still agrees.
-- What falls: the registers without a mark, for a pass that changes something sets one.
use lib.ListN.{take}
use Rattle.split_laws.specs.Marks.{unset}
use Rattle.propagate.specs.Passes.{Carried}
use Rattle.propagate.proofs.propagate.Given as goal

abbrev pub invariant-loop-down : goal.invariant-loop-down
invariant-loop-down l = Carried l.list.words.now l.list.registers l.initial.scratch l.scratch

abbrev pub decreases-loop-down : goal.decreases-loop-down
decreases-loop-down l = unset (take l.list.registers l.scratch)
