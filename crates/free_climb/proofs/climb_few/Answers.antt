-- `climb_few`: plain trials; from a longer period the descent, from one left undecided `climb_on`.
use Rattle.free_climb.proofs.ClimbLaws.{trial-onward, trial-undecided}
use Rattle.free_climb.proofs.climb_few.Goals as goal

pub come_down-period-requires : goal.come_down-period-requires
come_down-period-requires c =
    trial-onward c.requires c.ascend.auto.x c.ascend.ensures c.in-Onward.is

pub climb_on-requires : goal.climb_on-requires
climb_on-requires c =
    trial-undecided c.requires c.ascend.auto.x c.ascend.ensures c.in-Undecided.is
