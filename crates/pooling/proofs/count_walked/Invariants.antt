-- Invariant: so many pairs are met where the lists are walked to pairs i and j (`Counting`). What falls: the pairs that are unread.
use Rattle.std.proofs.Common.{◌+◌, ◌-◌}
use Rattle.pooling.proofs.CountLaws.{Counting}
use Rattle.pooling.proofs.count_walked.Given as goal

abbrev pub invariant-loop-i : goal.invariant-loop-i
invariant-loop-i l = Counting l.first.words.now l.second.words.now l.i l.j l.count

abbrev pub decreases-loop-i : goal.decreases-loop-i
decreases-loop-i l = l.m - l.i + (l.k - l.j)
