-- `close`: a number that has begun ends: it is the count of pairs, or one number more has ended; one too many is fault 5.
use mathlib.Core.Path.{◌∙◌, sym}
use Rattle.scan.proofs.CaseLaws.{ended-outside, ended-second, ended-full, ended-next}
use Rattle.scan.proofs.State.close.Goals as goal

pub returns-then-not-self : goal.returns-then-not-self
returns-then-not-self c = ended-outside _ c.if-not-self.true

pub returns-then-is_second : goal.returns-then-is_second
returns-then-is_second c =
    c.outside.ensures ∙ ended-second _ c.if-not-self.false (sym c.is_second.ensures ∙ c.if-is_second.true)

pub returns-then-self-ge-MAX_NUMBERS : goal.returns-then-self-ge-MAX_NUMBERS
returns-then-self-ge-MAX_NUMBERS c =
    c.fail.ensures ∙ ended-full _ c.if-not-self.false (sym c.is_second.ensures ∙ c.if-is_second.false) c.if-self-ge-MAX_NUMBERS.true

pub returns : goal.returns
returns c =
    c.outside-2.ensures ∙ ended-next _ c.if-not-self.false (sym c.is_second.ensures ∙ c.if-is_second.false) c.if-self-ge-MAX_NUMBERS.false
