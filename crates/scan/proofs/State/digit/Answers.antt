-- `digit`: the value grows by a digit, or is fault 2 above the largest number.
use mathlib.Core.Path.{◌∙◌}
use Rattle.scan.proofs.CaseLaws.{digit-large, digit-more}
use Rattle.scan.proofs.State.digit.Goals as goal

pub returns-then-value-gt-MAX_VALUE : goal.returns-then-value-gt-MAX_VALUE
returns-then-value-gt-MAX_VALUE c = c.fail.ensures ∙ digit-large _ _ c.if-value-gt-MAX_VALUE.true

pub returns : goal.returns
returns c = digit-more _ _ c.if-value-gt-MAX_VALUE.false
