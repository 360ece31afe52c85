-- `passes`: the schedule is admissible exactly where the first broken pair is past the last (`none-test`).
use Rattle.checker.proofs.CheckLaws.{none-test}
use Rattle.checker.proofs.passes.Goals as goal

pub returns : goal.returns
returns c =
    let a = c.args in
    rw (c.first_broken.ensures, c.args.list.usable.pairs_are) (none-test a.list.words.now a.period a.timings.now)
