-- `land`: a trial that tells the period settles it (`trial-settled`); else `close` goes on from it.
use Rattle.free_climb.proofs.ClimbLaws.{trial-settled}
use Rattle.free_climb.proofs.land.Goals as goal

pub returns-then-told-period : goal.returns-then-told-period
returns-then-told-period c =
    trial-settled c.requires c.follow.auto.x c.in-Some.ensures c.if-told-period.true
