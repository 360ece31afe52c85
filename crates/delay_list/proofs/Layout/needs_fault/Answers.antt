-- `needs_fault`: the first fault of the words of needs, one by one, and then 18.
-- Invariant `Remaining`: what is left of the checks decides as the whole does.
use Rattle.std.proofs.Common.{arith, rules}
use Rattle.refusals.proofs.CheckLaws.{remaining-turn, remaining-stops, remaining-end}
use Rattle.delay_list.proofs.Layout.needs_fault.Goals as goal

pub returns-in_err-need_fault : goal.returns-in_err-need_fault
returns-in_err-need_fault c =
    let stops = remaining-stops _ _ _ c.loop-r.invariant (omega arith) c.need_fault.ensures c.in_err-need_fault.was in
    search (rules, stops)

pub loop-r-preserved : goal.loop-r-preserved
loop-r-preserved c = remaining-turn _ _ _ c.loop-r.invariant (omega arith) c.need_fault.ensures c.in_ok-need_fault.was

pub returns : goal.returns
returns c = remaining-end _ _ _ c.loop-r.invariant (omega arith) c.zero_fault.ensures
