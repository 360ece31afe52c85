-- `needs_fault`: the first fault of the words of needs, one by one, and then 18.
-- Invariant `Remaining`: what is left of the checks decides as the whole does.
use Rattle.std.proofs.Common.{◌&&◌, ltb, [], ◌∷◌}
use Rattle.refusals.proofs.CheckLaws.{Remaining}
use Rattle.refusals.specs.declared.Refusal.TheVariants.{NoNeeds}
use Rattle.list_format.specs.Lists.{needs_of, no_needs, need_checks}
use Rattle.delay_list.proofs.Layout.needs_fault.Given as goal

abbrev pub invariant-loop-r : goal.invariant-loop-r
invariant-loop-r l = Remaining (need_checks l.self.words.now) ((ltb 0 l.self.needs && no_needs (needs_of l.self.words.now), NoNeeds, 1) ∷ []) l.self.needs l.r
