-- `come_down`: what the descent shows bounds the period (`trial-longer`).
use Rattle.free_climb.proofs.ClimbLaws.{trial-kept, trial-longer}
use Rattle.free_climb.proofs.come_down.Goals as goal

pub returns : goal.returns
returns c =
    trial-kept (trial-longer c.requires c.descend-shown.ensures c.larger.ensures) c.descend-shown.auto.x
