-- `seed`: the roots, pair by pair. Invariant `Seeding`: those of the first k pairs.
use Rattle.forced_late.specs.Forest.{Seeding}
use Rattle.forced_late.proofs.seed.Given as goal

abbrev pub invariant-loop-k : goal.invariant-loop-k
invariant-loop-k l = Seeding l.list.words.now l.list.registers l.initial.scratch l.scratch l.k
