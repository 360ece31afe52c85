-- `lift`: every register raised to a period below which no split works; each is a reach (`lifted`).
-- Invariant `Reaching`.
use Rattle.reach.specs.Settling.{Reaching}
use Rattle.reach.proofs.Listed.lift.Given as goal

abbrev pub invariant-loop-r : goal.invariant-loop-r
invariant-loop-r l = Reaching l.self.list.words.now l.self.list.pairs l.self.top l.reach
