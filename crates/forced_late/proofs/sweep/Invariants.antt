-- `sweep`: both ways along every pair. Invariant: the first k force nothing more, where nothing was marked.
use Rattle.forced_late.specs.Forest.{Grows}
use Rattle.forced_late.proofs.GrowLaws.{ForceTo}
use Rattle.forced_late.proofs.sweep.Given as goal

abbrev pub invariant-loop-k : goal.invariant-loop-k
invariant-loop-k l = Grows l.list.words.now l.list.registers (ForceTo l.list.words.now l.list.registers l.k) l.initial.scratch l.scratch l.moved
