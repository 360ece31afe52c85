-- `darnerflax_split` hands on the record of its job: each case of the answer is told by its numbers.
use mathlib.Core.Path.{◌∙◌, ap}
use Rattle.std.specs.Prelude.{Ok}
use Rattle.split.specs.Splitting.{split_reply}
use Rattle.planner_c.specs.Coded.{status_of, places_of}
use Rattle.planner_c.proofs.ToldLaws.{told-case}
use Rattle.planner_c.proofs.darnerflax_split.Goals as goal

pub returns-in-Err : goal.returns-in-Err
unfolding split_reply status_of places_of
returns-in-Err c = told-case c.split.ensures c.in-Err.is (c.refuse.ensures.status, c.refuse.ensures.places)

pub returns-in-true : goal.returns-in-true
unfolding split_reply status_of places_of
returns-in-true c = told-case c.split.ensures (c.in-Ok.is ∙ ap Ok c.in-true.is) (c.tell.ensures.status, c.tell.ensures.places)

pub returns-in-false : goal.returns-in-false
unfolding split_reply status_of places_of
returns-in-false c = told-case c.split.ensures (c.in-Ok.is ∙ ap Ok c.in-false.is) (c.tell-in-false.ensures.status, c.tell-in-false.ensures.places)
