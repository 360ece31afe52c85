-- `plan`: the list is refused, or the call, or the plan is made (`show`). One law for each way to end.
use Rattle.std.proofs.Common.{rules}
use Rattle.std.proofs.lemmas.Result.{IfOk-at_ok, IfErr-at_err}
use Rattle.planner.proofs.PlanCallLaws.{list-refused, call-refused, call-allowed}
use Rattle.planner.proofs.plan.Goals as goal

pub show-requires : goal.show-requires
show-requires c =
    let a = c.args in
    let list = IfOk-at_ok _ c.in_ok-list.was c.accepted.ensures.accepted in
    rw (← list.0) at (call-allowed a.words.now a.answer.now a.scratch.now list.1 c.call_fault.ensures c.in_ok-call_fault.was)

pub returns-in_err-list : goal.returns-in_err-list
returns-in_err-list c =
    let a = c.args in
    let stops = list-refused a.words.now a.answer.now a.scratch.now (IfErr-at_err _ c.in_err-list.was c.accepted.ensures.refused) in
    search (rules, stops)

pub returns-in_err-call_fault : goal.returns-in_err-call_fault
returns-in_err-call_fault c =
    let a = c.args in
    let list = IfOk-at_ok _ c.in_ok-list.was c.accepted.ensures.accepted in
    let stops = call-refused a.words.now a.answer.now a.scratch.now list.1 c.call_fault.ensures c.in_err-call_fault.was in
    search (rules, stops)

pub returns : goal.returns
returns c =
    let list = IfOk-at_ok _ c.in_ok-list.was c.accepted.ensures.accepted in
    rw list.0 at c.show.ensures
