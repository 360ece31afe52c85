-- `body_fault`: the first refusal of the needs, register by register, and then of the pairs and the room.
-- Invariant `Remaining`: the checks of register r and later ones decide as the whole run does.
use Rattle.std.proofs.Common.{arith, rules}
use Rattle.refusals.proofs.CheckLaws.{remaining-turn, remaining-stops, remaining-end}
use Rattle.write_list.proofs.Given.body_fault.Goals as goal

pub returns-in_err-need_fault : goal.returns-in_err-need_fault
returns-in_err-need_fault c =
    let stops = remaining-stops _ _ _ c.loop-r.invariant (omega arith) c.need_fault.ensures c.in_err-need_fault.was in
    search (rules, stops)

pub loop-r-preserved : goal.loop-r-preserved
loop-r-preserved c = remaining-turn _ _ _ c.loop-r.invariant (omega arith) c.need_fault.ensures c.in_ok-need_fault.was

pub returns : goal.returns
returns c = remaining-end _ _ _ c.loop-r.invariant (omega arith) c.pairs_fault.ensures
