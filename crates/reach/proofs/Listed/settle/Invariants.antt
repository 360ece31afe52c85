-- `settle`: reaches that no pair raises further.
-- Invariant `Reaching`: each is a reach of its register. What falls: `room`, which a sweep that raised something leaves smaller.
use Rattle.plan_laws.specs.Reach.{room}
use Rattle.reach.specs.Settling.{Reaching}
use Rattle.reach.proofs.Listed.settle.Given as goal

abbrev pub invariant-loop-down : goal.invariant-loop-down
invariant-loop-down l = Reaching l.self.list.words.now l.self.list.pairs l.self.top l.reach

abbrev pub decreases-loop-down : goal.decreases-loop-down
decreases-loop-down l = room l.self.top l.reach
