-- `show`: the plan, with the scratch left zero, is the whole promise (`planned`).
use Rattle.planner.proofs.PlanCallLaws.{left-zero, planned}
use Rattle.planner.proofs.show.Goals as goal

pub returns : goal.returns
returns c =
    let ws = c.args.list.words.now in
    let answer = c.args.answer.now in
    let scratch = c.args.scratch.now in
    let cleared = rw c.scratch_places.ensures at c.clear.ensures in
    planned ws answer scratch c.requires c.plan_list-planned.ensures.plan
    (left-zero ws answer scratch c.requires _ c.plan_list-planned.ensures.rest cleared)
