-- `gather`: the period seen is kept.
use mathlib.Core.Path.{◌≡◌}
use Rattle.reach.proofs.Waiting.gather.Given as goal

abbrev pub invariant-loop-r : goal.invariant-loop-r
invariant-loop-r l = l.self.most ≡ l.initial.self.most
