-- `plan_by`: the free timings, and behind them the split's timings, in the places lent for them (`plan-in`).
use Rattle.planner.proofs.PlanCallLaws.{plan-in, two_fits}
use Rattle.planner.proofs.plan_by.Goals as goal

pub overflow_sub-offset : goal.overflow_sub-offset
overflow_sub-offset c =
    two_fits c.args.list.words.now c.common-common.ensures c.fill_split-two.ensures.period

pub returns : goal.returns
returns c =
    plan-in c.requires c.common-common.ensures c.fill-free.ensures c.fill_split-two.ensures
