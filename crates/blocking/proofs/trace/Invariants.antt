-- `trace`: the steps from register r up to its root. Invariant `Tracing`.
use Rattle.blocking.specs.Paths.{Late}
use Rattle.blocking.proofs.StoreLaws.{Tracing}
use Rattle.blocking.proofs.trace.Given as goal

abbrev pub invariant-loop-i : goal.invariant-loop-i
invariant-loop-i l =
    (late : Late l.list.words.now l.list.registers l.list.pairs l.initial.scratch l.r)
    × Tracing l.list.words.now l.list.registers l.list.pairs l.r l.initial.scratch late l.height l.scratch l.at l.i
