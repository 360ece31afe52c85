-- One register more.
use Rattle.std.proofs.Common.{refl, add-one}
use Rattle.pooling.specs.Pool.{same_needs}
use Rattle.pooling.proofs.same_needs.Goals as goal

pub loop-r-init : goal.loop-r-init
unfolding same_needs
loop-r-init c = refl

pub loop-r-preserved : goal.loop-r-preserved
unfolding same_needs
loop-r-preserved c = rw (add-one c.loop-r.r, c.same_at-same.ensures, ← c.loop-r.invariant)
