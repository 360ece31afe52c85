-- `sweep`: a pass over all pairs, up or down the list; settled where no pair forces more.
-- Invariant: a `Pass` for which the pairs at the first i places force no more (`MarksClosedTo`).
use Rattle.propagate.specs.Passes.{Pass}
use Rattle.propagate.proofs.PassLaws.{MarksClosedTo}
use Rattle.propagate.proofs.sweep.Given as goal

abbrev pub invariant-loop-i : goal.invariant-loop-i
invariant-loop-i l = Pass l.list.words.now l.list.registers (MarksClosedTo l.list.words.now l.down l.i) l.initial.scratch l.scratch l.all
