-- `show`: the forest, then a pair that clashes or none. One law for each answer.
use Rattle.blocking.proofs.WhyLaws.{workable-shown, blocked-shown}
use Rattle.blocking.proofs.show.Goals as goal

pub returns-in_default : goal.returns-in_default
returns-in_default c =
    workable-shown c.args.list.words.now c.args.period c.args.answer.now c.args.scratch.now c.requires c.prepare.ensures c.in_default.ensures
    (rw c.scratch_places-end.ensures at c.clear.ensures)

pub returns : goal.returns
returns c =
    blocked-shown c.args.list.words.now c.args.period c.args.answer.now c.args.scratch.now c.requires c.prepare.ensures c.in-Some.ensures.0.0
    c.in-Some.ensures.0.1 c.put_chains-blocked.ensures
    (rw c.scratch_places-end.ensures at c.clear-2.ensures)
