-- `relax`: the capture raised as far as setup asks, then the launch as far as hold asks (`relax-is`).
use Rattle.timing.specs.Limits.{max_timing}
use Rattle.free_laws.proofs.Cap.{relax-is}
use Rattle.free_rounds.proofs.relax.Goals as goal

pub returns : goal.returns
returns c =
    let a = c.args in
    relax-is max_timing a.period a.p a.x.now c.raise-first.ensures c.raise.ensures
