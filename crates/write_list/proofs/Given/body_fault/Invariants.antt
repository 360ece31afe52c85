-- `body_fault`: the first refusal of the needs, register by register, and then of the pairs and the room.
-- Invariant `Remaining`: the checks of register r and later ones decide as the whole run does.
use Rattle.refusals.proofs.CheckLaws.{Remaining}
use Rattle.list_format.specs.Write.{given_need_checks, given_pairs}
use Rattle.write_list.proofs.Given.body_fault.Given as goal

abbrev pub invariant-loop-r : goal.invariant-loop-r
invariant-loop-r l =
    Remaining (given_need_checks l.self.needs.now)
    (given_pairs l.asked l.self.registers l.self.numbers.now l.self.needs.now l.m l.room) l.self.registers l.r
