-- `pairs_fault`: the first fault of the pairs, one by one, and of the end.
-- Invariant `Remaining`: what is left of the checks decides as the whole does.
use Rattle.refusals.proofs.CheckLaws.{Remaining}
use Rattle.list_format.specs.Lists.{pair_place, pair_checks, end_checks}
use Rattle.delay_list.proofs.Layout.pairs_fault.Given as goal

abbrev pub invariant-loop-k : goal.invariant-loop-k
invariant-loop-k l = Remaining (pair_checks l.asked l.self.words.now l.n) (end_checks l.self.words.now (pair_place l.self.words.now l.m)) l.m l.k
