-- `close`: trials, and from a period that they come to and leave the climb of `finish`.
use Rattle.free_climb.proofs.ClimbLaws.{trial-left}
use Rattle.free_climb.proofs.close.Goals as goal

pub finish-requires : goal.finish-requires
finish-requires c =
    trial-left c.requires c.ascend.auto.x c.ascend.ensures c.in-Onward.is
