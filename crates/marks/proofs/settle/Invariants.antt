-- `settle`: all that one pair's broken choices force. Invariant `Settling`: what the first k rows force is followed.
-- After them the capture is forced late where early, early is broken.
use lib.ListN.{length}
use mathlib.Core.Path.{◌≡◌}
use Rattle.split_laws.proofs.ClosureLaws.{Settling}
use Rattle.marks.proofs.settle.Given as goal

abbrev pub invariant-loop-k : goal.invariant-loop-k
invariant-loop-k l = (length l.flags ≡ 4) × Settling l.k l.fn.pair l.flags l.initial.marks l.marks l.all
