-- `none_needed`: all needs are 0, unless one is found that is not.
-- Invariant `NoneTo`: those of the first r registers are 0.
use Rattle.list_format.proofs.NeedsLaws.{NoneTo}
use Rattle.delay_list.proofs.Layout.none_needed.Given as goal

abbrev pub invariant-loop-r : goal.invariant-loop-r
invariant-loop-r l = NoneTo l.self.words.now l.self.needs l.r
