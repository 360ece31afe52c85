-- `force`: the mark is there, or is set where there was none, or clashes with the other; then no split agrees.
use Rattle.split_laws.proofs.MarkLaws.{forced-new}
use Rattle.marks.proofs.force.Goals as goal

pub returns-then-m-eq0 : goal.returns-then-m-eq0
returns-then-m-eq0 c =
    forced-new c.args.marks.now c.args.r c.args.v c.requires.0 c.if-m-eq0.true c.requires.1
