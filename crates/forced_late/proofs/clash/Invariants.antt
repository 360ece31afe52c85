-- `clash`: the first pair that clashes. Invariant: none of the first k does.
use Prim.Native.Nat.{ℕ, ◌<◌}
use Rattle.forced_late.specs.Forest.{Clashes}
use Rattle.forced_late.proofs.clash.Given as goal

abbrev pub invariant-loop-k : goal.invariant-loop-k
invariant-loop-k l = (j : ℕ) → j < l.k → Clashes l.list.words.now l.list.registers l.scratch j → ⊥
