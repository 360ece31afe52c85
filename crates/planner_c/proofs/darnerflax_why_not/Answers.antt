-- `darnerflax_why_not` hands on the record of its job: each case of the answer is told by its numbers.
use mathlib.Core.Path.{◌∙◌, ap}
use Rattle.std.specs.Prelude.{Ok}
use Rattle.blocking.specs.Blocking.{why_reply}
use Rattle.planner_c.specs.Coded.{status_of, places_of}
use Rattle.planner_c.proofs.ToldLaws.{told-case}
use Rattle.planner_c.proofs.darnerflax_why_not.Goals as goal

pub returns-in-Err : goal.returns-in-Err
unfolding why_reply status_of places_of
returns-in-Err c = told-case c.why_not.ensures c.in-Err.is (c.refuse.ensures.status, c.refuse.ensures.places)

pub returns-in-None : goal.returns-in-None
unfolding why_reply status_of places_of
returns-in-None c = told-case c.why_not.ensures (c.in-Ok.is ∙ ap Ok c.in-None.is) (c.tell.ensures.status, c.tell.ensures.places)

pub returns-in-Some : goal.returns-in-Some
unfolding why_reply status_of places_of
returns-in-Some c = told-case c.why_not.ensures (c.in-Ok.is ∙ ap Ok c.in-Some.is) (c.tell-in-Some.ensures.status, c.tell-in-Some.ensures.places)
