-- `around`: no schedule at a period shorter than a closed trail asks for; a trail that is not closed asks for 0.
-- Invariant `Traced`: the sums are those of rules of the list. What falls: n - steps.
use Rattle.free_laws.proofs.Cycle.{adds-closed}
use Rattle.free_cycles.proofs.around.Goals as goal

pub returns-then-w-start : goal.returns-then-w-start
returns-then-w-start c = adds-closed c.in-Some.ensures.traced.adds c.needed.ensures
