-- `go_up`: safe, and it ends; nothing is promised of the marks and the stack.
-- Invariant: the register at hand has a place among the marks.
use Prim.Native.Nat.{◌<◌}
use Rattle.free_carry.proofs.Met.go_up.Given as goal

abbrev pub invariant-loop-i : goal.invariant-loop-i
invariant-loop-i l = l.at < 512
