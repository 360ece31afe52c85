-- `pairs_fault`: the first refusal of the pairs, each with its registers and delays, and then of the room.
-- Invariant `Remaining`: the checks of pair k and later ones decide as the whole run does.
use Prim.Native.Nat.{◌+◌}
use mathlib.Core.List.{[], ◌∷◌}
use lib.Dec.{ltb}
use Rattle.refusals.proofs.CheckLaws.{Remaining}
use Rattle.refusals.specs.declared.Refusal.TheVariants.{Room}
use Rattle.list_format.specs.Lists.{place_by}
use Rattle.list_format.specs.Write.{given_needs, given_checks}
use Rattle.write_list.proofs.Given.pairs_fault.Given as goal

abbrev pub invariant-loop-k : goal.invariant-loop-k
invariant-loop-k l =
    Remaining (given_checks l.asked l.self.registers l.self.numbers.now l.self.needs.now)
    ((ltb l.room (place_by (given_needs l.self.registers l.self.needs.now) l.m + 1), Room, 0) ∷ []) l.m l.k
