-- `settle`: refusal 2 for too few places; else the answer of `answer_within`.
use Rattle.std.proofs.Common.{sym, ◌∙◌, rules}
use borrow.Author.Tests.{ltb-true, ltb-false}
use Rattle.refusals.proofs.ReplyLaws.{check-fails, check-holds}
use Rattle.free_schedule.proofs.CallLaws.{too_small, roomy}
use Rattle.free_schedule.proofs.settle.Goals as goal

pub returns-in_err-check : goal.returns-in_err-check
returns-in_err-check c =
    let fails = check-fails _ _ _ (sym c.check.ensures ∙ c.in_err-check.was) in
    let stops = too_small c.args.list.words.now c.args.answer.now c.requires c.args.list.usable (ltb-true _ _ fails.0) in
    search (rules, stops, fails.1)

pub answer_within-requires-clause-list : goal.answer_within-requires-clause-list
answer_within-requires-clause-list c =
    (c.requires, roomy c.args.list.usable (ltb-false _ _ (check-holds _ _ _ (sym c.check.ensures ∙ c.in_ok-check.was))))

pub answer_within-requires-2-clause-list : goal.answer_within-requires-2-clause-list
answer_within-requires-2-clause-list c =
    (c.requires, roomy c.args.list.usable (ltb-false _ _ (check-holds _ _ _ (sym c.check.ensures ∙ c.in_ok-check.was))))
