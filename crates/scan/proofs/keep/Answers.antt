-- `keep`: where a number has ended on the way, it is stored in its place; else nothing is.
use Rattle.scan.proofs.CaseLaws.{kept-one, kept-none}
use Rattle.scan.proofs.keep.Goals as goal

pub returns-then-at-next : goal.returns-then-at-next
returns-then-at-next c = kept-one _ _ _ c.if-at-next.true

pub returns-else-at-next : goal.returns-else-at-next
returns-else-at-next c = kept-none _ _ _ c.if-at-next.false
