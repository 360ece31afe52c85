-- `around`: no schedule at a period shorter than a closed trail asks for; a trail that is not closed asks for 0.
-- Invariant `Traced`: the sums are those of rules of the list. What falls: n - steps, for each step adds one.
use Prim.Native.Nat.{◌-◌}
use Rattle.free_cycles.specs.Tracing.{Traced}
use Rattle.free_cycles.proofs.around.Given as goal

abbrev pub invariant-loop-w : goal.invariant-loop-w
invariant-loop-w l = Traced l.list.words.now l.list.registers l.w

abbrev pub decreases-loop-w : goal.decreases-loop-w
decreases-loop-w l = l.list.registers - l.w.steps
