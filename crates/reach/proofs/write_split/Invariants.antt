-- `write_split`: the timings of the split, each in the place of the reach that it is read from.
-- Invariant `Filling`: those of the first i registers are stored.
use mathlib.Core.List.{[]}
use lib.ListN.{length}
use Rattle.buffers.proofs.FillLaws.{Filling}
use Rattle.reach.proofs.SweepLaws.{times}
use Rattle.reach.proofs.write_split.Given as goal

abbrev pub invariant-loop-i : goal.invariant-loop-i
invariant-loop-i l = Filling [] (times l.offset l.two l.initial.reach) (length l.initial.reach) l.initial.reach l.reach l.i
