-- `needs_then`: a line of needs counts two more.
use mathlib.Core.Path.{◌∙◌, sym}
use Rattle.scan.proofs.CaseLaws.{needs-more, needs-same}
use Rattle.scan.proofs.State.needs_then.Goals as goal

pub returns-then-need_line : goal.returns-then-need_line
returns-then-need_line c = needs-more _ _ _ _ (sym c.need_line.ensures ∙ c.if-need_line.true)

pub returns-else-need_line : goal.returns-else-need_line
returns-else-need_line c = needs-same _ _ _ _ (sym c.need_line.ensures ∙ c.if-need_line.false)
