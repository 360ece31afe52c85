-- `show`: the trial decides; the timings are stored where a split works, and the scratch is zero either way. One law for each answer.
use Rattle.split.proofs.SplitLaws.{none-shown, split-shown}
use Rattle.split.proofs.show.Goals as goal

pub returns-then-not-decide : goal.returns-then-not-decide
returns-then-not-decide c =
    none-shown c.args.list.words.now c.args.period c.args.offset c.args.answer.now c.args.scratch.now c.requires _ _
    c.decide.ensures
    (rw c.scratch_places-end.ensures at c.clear.ensures)
    c.if-not-decide.true

pub returns : goal.returns
returns c =
    split-shown c.args.list.words.now c.args.period c.args.offset c.args.answer.now c.args.scratch.now c.requires _ _
    c.decide.ensures
    (rw c.scratch_places-end.ensures at c.clear-2.ensures)
    c.if-not-decide.false
    c.write_split.ensures
