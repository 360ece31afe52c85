-- `why_not`: the list is refused, or the call, or the forest decides (`show`). One law for each way to end.
use Rattle.std.proofs.Common.{ℕ, List, ◌≡◌, ap, rules, Bor}
use Rattle.std.specs.Prelude.{Err}
use Rattle.blocking.proofs.WhyLaws.{list-refused, call-refused, call-allowed}
use Rattle.blocking.proofs.why_not.Goals as goal

pub show-requires : goal.show-requires
show-requires c =
    let same = ap (λ (b : Bor (List ℕ)). b.now) c.in_ok-list.ensures.accepted.0 in
    rw same
    (call-allowed c.args.words.now c.args.period c.args.answer.now c.args.scratch.now c.in_ok-list.ensures.accepted.1
    c.call_fault.ensures c.in_ok-call_fault.was)

pub returns-in_err-list : goal.returns-in_err-list
returns-in_err-list c =
    let is : c.from_residual.result ≡ Err c.in_err-list.field-0.0 = search rules in
    rw is (list-refused c.args.words.now c.args.period c.args.answer.now c.args.scratch.now c.in_err-list.ensures.refused)

pub returns-in_err-call_fault : goal.returns-in_err-call_fault
returns-in_err-call_fault c =
    let is : c.from_residual-in_err-call_fault.result ≡ Err c.in_err-call_fault.field-0.0 = search rules in
    rw is
    (call-refused c.args.words.now c.args.period c.args.answer.now c.args.scratch.now c.in_ok-list.ensures.accepted.1
    c.call_fault.ensures c.in_err-call_fault.was)

pub returns : goal.returns
returns c =
    let same = ap (λ (b : Bor (List ℕ)). b.now) c.in_ok-list.ensures.accepted.0 in
    rw same at c.show.ensures
