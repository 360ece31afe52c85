-- `darnerflax_plan` hands on the record of its job: each case of the answer is told by its numbers.
use Rattle.planner.specs.PlanCall.{plan_reply}
use Rattle.planner_c.specs.Coded.{status_of, places_of}
use Rattle.planner_c.proofs.ToldLaws.{told-case}
use Rattle.planner_c.proofs.darnerflax_plan.Goals as goal

pub returns-in-Err : goal.returns-in-Err
unfolding plan_reply status_of places_of
returns-in-Err c = told-case c.plan.ensures c.in-Err.is (c.refuse.ensures.status, c.refuse.ensures.places)

pub returns-in-Ok : goal.returns-in-Ok
unfolding plan_reply status_of places_of
returns-in-Ok c = told-case c.plan.ensures c.in-Ok.is (c.tell.ensures.status, c.tell.ensures.places)
