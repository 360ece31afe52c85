-- `plan_counted`: by the list itself, or by its copy with the needs counted in, whose plan is the same (`counted-plan`).
use mathlib.Core.Path.{refl}
use Rattle.planner.proofs.PlanCallLaws.{counted-room, counted-plan, counted-rest}
use Rattle.planner.proofs.plan_counted.Goals as goal

pub invariant_of-counted : goal.invariant_of-counted
invariant_of-counted c =
    let room = counted-room c.requires c.args.scratch.now refl c.count_in.ensures {answer = c.args.answer.now} refl in
    record { usable = room.list }

pub plan_by-requires-2 : goal.plan_by-requires-2
plan_by-requires-2 c =
    counted-room c.requires c.args.scratch.now refl c.count_in.ensures refl

pub returns : goal.returns
returns c =
    let scratch = c.args.scratch.now in
    let counted = c.count_in.ensures in
    record {
      plan = counted-plan c.requires scratch refl counted c.plan_by-2.ensures;
      rest = counted-rest c.requires scratch refl counted;
    }
