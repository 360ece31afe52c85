-- `line_fault`: whether a line may end here, case by case: not lined, empty, the first line with a number, a later one.
use Rattle.scan.proofs.CaseLaws.{not-lined, blank-line, first-line, bad-first, pair_line_lem, need-line, bad-line}
use mathlib.Core.Path.{◌∙◌, sym}
use Rattle.scan.proofs.State.line_fault.Goals as goal

pub returns-then-not-self : goal.returns-then-not-self
returns-then-not-self c = not-lined _ _ _ _ c.if-not-self.true

pub returns-then-self : goal.returns-then-self
returns-then-self c = blank-line _ _ _ _ c.if-not-self.false c.if-self.true

pub returns-then-self-eq1 : goal.returns-then-self-eq1
returns-then-self-eq1 c = first-line _ _ _ _ c.if-not-self.false c.if-self.false c.if-self-eq0.true c.if-self-eq1.true

pub returns-then-self-eq0 : goal.returns-then-self-eq0
returns-then-self-eq0 c = bad-first _ _ _ _ c.if-not-self.false c.if-self.false c.if-self-eq0.true c.if-self-eq1.false

pub returns-then-self-2 : goal.returns-then-self-2
returns-then-self-2 c = pair_line_lem _ _ _ _ c.if-not-self.false c.if-self.false c.if-self-eq0.false c.if-self-2.true

pub returns-then-need_line : goal.returns-then-need_line
returns-then-need_line c =
    need-line _ _ _ _ c.if-not-self.false c.if-self.false c.if-self-eq0.false c.if-self-2.false
    (sym c.need_line.ensures ∙ c.if-need_line.true)

pub returns : goal.returns
returns c =
    bad-line _ _ _ _ c.if-not-self.false c.if-self.false c.if-self-eq0.false c.if-self-2.false
    (sym c.need_line.ensures ∙ c.if-need_line.false)
