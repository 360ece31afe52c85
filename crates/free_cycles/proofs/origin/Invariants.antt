-- `origin`: n steps back lead to a register of the list.
-- Invariant `Traced`: the sums are those of rules of the list. What falls: n - steps, for each step adds one.
use Prim.Native.Nat.{◌-◌}
use Rattle.free_cycles.specs.Tracing.{Traced}
use Rattle.free_cycles.proofs.origin.Given as goal

abbrev pub invariant-loop-w : goal.invariant-loop-w
invariant-loop-w l = Traced l.list.words.now l.list.registers l.w

abbrev pub decreases-loop-w : goal.decreases-loop-w
decreases-loop-w l = l.list.registers - l.w.steps
