-- `two_period`: every reach starts at `floor`, below which no split works, and is raised, first as the guide goes and then to the
-- period that it gives, below which none works; swept, they give the two-timing period (`reached`).
use Rattle.reach.proofs.SweepLaws.{reaching-start, reached}
use Rattle.reach.proofs.two_period.Goals as goal

pub guide-most-requires : goal.guide-most-requires
guide-most-requires c =
    reaching-start c.args.floor c.args.reach.now (rw (← c.requires.size) at c.args.list.usable) c.requires.top_is c.requires.below c.level.ensures

pub returns : goal.returns
returns c = reached c.settle.ensures c.period.ensures
