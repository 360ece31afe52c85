-- `darnerflax_convert` hands on the record of its job: each case of the answer is told by its numbers.
use Rattle.converter.specs.Convert.{convert_reply}
use Rattle.planner_c.specs.Coded.{status_of, places_of}
use Rattle.planner_c.proofs.ToldLaws.{told-case}
use Rattle.planner_c.proofs.darnerflax_convert.Goals as goal

pub returns-in-Err : goal.returns-in-Err
unfolding convert_reply status_of places_of
returns-in-Err c = told-case c.convert.ensures c.in-Err.is (c.refuse.ensures.status, c.refuse.ensures.places)

pub returns-in-Ok : goal.returns-in-Ok
unfolding convert_reply status_of places_of
returns-in-Ok c = told-case c.convert.ensures c.in-Ok.is (c.tell.ensures.status, c.tell.ensures.places)
