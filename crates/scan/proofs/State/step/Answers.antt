-- `step`: one byte more: a newline, a byte of a comment, or any other of a line. One law of CaseLaws for each way.
use mathlib.Core.Path.{◌∙◌, sym}
use Rattle.scan.proofs.CaseLaws.{step_stays, step-newline, step-comment, step_line}
use Rattle.scan.proofs.StateLaws.{ended-in}
use Rattle.scan.proofs.State.step.Goals as goal

pub returns-then-is_some : goal.returns-then-is_some
returns-then-is_some c = step_stays _ _ (sym c.is_some.ensures ∙ c.if-is_some.true)

pub end_line-requires : goal.end_line-requires
end_line-requires c = rw c.close.ensures (ended-in _ c.requires)

pub returns-then-byte-eq10 : goal.returns-then-byte-eq10
returns-then-byte-eq10 c =
    rw c.close.ensures at c.end_line.ensures ∙ step-newline _ _ (sym c.is_some.ensures ∙ c.if-is_some.false) c.if-byte-eq10.true

pub returns-then-self : goal.returns-then-self
returns-then-self c = step-comment _ _ (sym c.is_some.ensures ∙ c.if-is_some.false) c.if-byte-eq10.false c.if-self.true

pub returns : goal.returns
returns c =
    c.step_in_line.ensures ∙ step_line _ _ (sym c.is_some.ensures ∙ c.if-is_some.false) c.if-byte-eq10.false c.if-self.false
