-- `stops`: a fault, or enough numbers.
use mathlib.Core.Path.{◌∙◌, sym}
use Rattle.scan.specs.Scan.{stops}
use Rattle.scan.proofs.stops.Goals as goal

pub returns-then-is_some : goal.returns-then-is_some
unfolding stops
returns-then-is_some c = rw (c.if-is_some.true, sym c.is_some.ensures ∙ c.if-is_some.true)

pub returns-else-is_some : goal.returns-else-is_some
unfolding stops
returns-else-is_some c = rw (sym c.is_some.ensures ∙ c.if-is_some.false)
