-- `climb_on`: trials, and from a period that they come to and leave the descent.
use Rattle.free_climb.proofs.ClimbLaws.{trial-left}
use Rattle.free_climb.proofs.climb_on.Goals as goal

pub come_down-period-requires : goal.come_down-period-requires
come_down-period-requires c =
    trial-left c.requires c.ascend.auto.x c.ascend.ensures c.in-Onward.is
