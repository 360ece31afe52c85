-- `free`: a refused list is refused with its place, and nothing is stored; an accepted one goes on to `settle`.
use Rattle.std.proofs.Common.{rules}
use Rattle.std.proofs.lemmas.Result.{IfOk-at_ok, IfErr-at_err}
use Rattle.free_schedule.proofs.CallLaws.{list-stops, list_counts}
use Rattle.free_schedule.proofs.free.Goals as goal

pub settle-requires : goal.settle-requires
settle-requires c =
    let list = IfOk-at_ok _ c.in_ok-list.was c.accepted.ensures.accepted in
    rw list.0 ((list_counts c.args.words.now list.1).accepted)

pub returns-in_err-list : goal.returns-in_err-list
returns-in_err-list c =
    let stops = list-stops c.args.words.now c.args.answer.now (IfErr-at_err _ c.in_err-list.was c.accepted.ensures.refused) in
    search (rules, stops)

pub returns : goal.returns
returns c =
    let list = IfOk-at_ok _ c.in_ok-list.was c.accepted.ensures.accepted in
    rw list.0 at c.settle.ensures
