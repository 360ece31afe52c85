-- `step_in_line`: a blank, the start of a comment, a digit, or fault 1. One law of CaseLaws for each way.
use mathlib.Core.Path.{◌∙◌, sym, ap}
use Rattle.scan.specs.Scan.{commented}
use Rattle.scan.proofs.CaseLaws.{in-blank, in-comment, in-low, in-high, in-digit}
use Rattle.scan.proofs.State.step_in_line.Goals as goal

pub returns-then-blank : goal.returns-then-blank
returns-then-blank c = c.close.ensures ∙ in-blank _ _ (sym c.blank.ensures ∙ c.if-blank.true)

pub returns-then-byte-eq35 : goal.returns-then-byte-eq35
returns-then-byte-eq35 c =
    ap commented c.close-then-byte-eq35.ensures ∙ in-comment _ _ (sym c.blank.ensures ∙ c.if-blank.false) c.if-byte-eq35.true

pub returns-then-byte-lt48 : goal.returns-then-byte-lt48
returns-then-byte-lt48 c =
    c.fail.ensures ∙ in-low _ _ (sym c.blank.ensures ∙ c.if-blank.false) c.if-byte-eq35.false c.if-byte-lt48.true

pub returns-then-byte-gt57 : goal.returns-then-byte-gt57
returns-then-byte-gt57 c =
    c.fail-then-byte-gt57.ensures
    ∙ in-high _ _ (sym c.blank.ensures ∙ c.if-blank.false) c.if-byte-eq35.false c.if-byte-lt48.false c.if-byte-gt57.true

pub returns : goal.returns
returns c =
    c.digit.ensures
    ∙ in-digit _ _ (sym c.blank.ensures ∙ c.if-blank.false) c.if-byte-eq35.false c.if-byte-lt48.false c.if-byte-gt57.false
