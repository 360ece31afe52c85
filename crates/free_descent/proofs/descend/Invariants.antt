-- `descend`: below what is told there is no schedule: it is what a cycle asks for, or 0.
-- Invariant: there are as many times as before.
use mathlib.Core.Path.{◌≡◌}
use lib.ListN.{length}
use Rattle.free_descent.proofs.descend.Given as goal

abbrev pub invariant-loop : goal.invariant-loop
invariant-loop l = length l.x ≡ length l.initial.x
