-- `answer_within`: both periods and the free schedule, unbeaten and passing a check (`settled`).
use Rattle.free_schedule.proofs.CallLaws.{settled}
use Rattle.free_schedule.proofs.answer_within.Goals as goal

pub returns : goal.returns
returns g c =
    settled c.requires.list.1 c.requires.list.0 c.common-common.ensures c.fill-free.ensures
