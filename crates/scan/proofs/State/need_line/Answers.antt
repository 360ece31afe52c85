-- `need_line`: the lines are those of a list, only the first line and needs stand before this one, and it has two numbers.
use Rattle.scan.proofs.CaseLaws.{needs-unlined, needs-later, needs-early}
use Rattle.scan.proofs.State.need_line.Goals as goal

pub returns-then-not-self : goal.returns-then-not-self
returns-then-not-self c = needs-unlined _ _ _ _ c.if-not-self.true

pub returns-then-self : goal.returns-then-self
returns-then-self c = needs-later _ _ _ _ c.if-not-self.false c.if-self.true

pub returns : goal.returns
returns c = needs-early _ _ _ _ c.if-not-self.false c.if-self.false
