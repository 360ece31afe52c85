-- `darnerflax_check` hands on the record of its job: each case of the answer is told by its numbers.
use mathlib.Core.Path.{◌∙◌, ap}
use Rattle.std.specs.Prelude.{Ok}
use Rattle.checker.specs.Check.{check_values, check_reply}
use Rattle.planner_c.specs.Coded.{status_of, places_of}
use Rattle.planner_c.proofs.ToldLaws.{told-case}
use Rattle.planner_c.proofs.darnerflax_check.Goals as goal

pub returns-in-Err : goal.returns-in-Err
unfolding check_reply status_of places_of
returns-in-Err c = told-case c.check.ensures c.in-Err.is (c.refuse.ensures.status, c.refuse.ensures.places)

pub returns-in-NoPairs : goal.returns-in-NoPairs
unfolding check_reply status_of places_of check_values
returns-in-NoPairs c = told-case c.check.ensures (c.in-Ok.is ∙ ap Ok c.in-NoPairs.is) (c.tell.ensures.status, c.tell.ensures.places)

pub returns-in-Admissible : goal.returns-in-Admissible
unfolding check_reply status_of
returns-in-Admissible c = told-case c.check.ensures (c.in-Ok.is ∙ ap Ok c.in-Admissible.is) (c.tell_admissible.ensures.status, c.tell_admissible.ensures.places)

pub returns-in-Broken : goal.returns-in-Broken
unfolding check_reply status_of
returns-in-Broken c = told-case c.check.ensures (c.in-Ok.is ∙ ap Ok c.in-Broken.is) (c.tell_broken.ensures.status, c.tell_broken.ensures.places)
