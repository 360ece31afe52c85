-- `check`: the list is refused, or the call, or the pairs decide. One law for each: the answer, and that it is sound and complete.
use Rattle.std.proofs.Common.{rules}
use Rattle.std.proofs.lemmas.Result.{IfOk-at_ok, IfErr-at_err}
use Rattle.checker.proofs.CheckLaws.{by-list, by_call, call-size, by-pairs}
use Rattle.checker.proofs.check.Goals as goal

pub checked-requires : goal.checked-requires
checked-requires c =
    let a = c.args in
    let list = IfOk-at_ok _ c.in_ok-list.was c.accepted.ensures.accepted in
    call-size a.words.now a.period a.timings.now list.1 c.call_fault.ensures c.in_ok-call_fault.was

pub returns-in_err-list : goal.returns-in_err-list
returns-in_err-list c =
    let a = c.args in
    let stops = by-list a.words.now a.period a.timings.now (IfErr-at_err _ c.in_err-list.was c.accepted.ensures.refused) in
    search (rules, stops)

pub returns-in_err-call_fault : goal.returns-in_err-call_fault
returns-in_err-call_fault c =
    let a = c.args in
    let list = IfOk-at_ok _ c.in_ok-list.was c.accepted.ensures.accepted in
    let stops = by_call a.words.now a.period a.timings.now list.1 c.call_fault.ensures c.in_err-call_fault.was in
    search (rules, stops)

pub returns : goal.returns
returns c =
    let a = c.args in
    let list = IfOk-at_ok _ c.in_ok-list.was c.accepted.ensures.accepted in
    by-pairs a.words.now a.period a.timings.now list.1 c.call_fault.ensures c.in_ok-call_fault.was (rw list.0 at c.checked.ensures)
