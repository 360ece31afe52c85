-- `call_cause`: a period of 0, one that is too long, a timing, else the count of timings.
use borrow.Author.Tests.{ne_eqb, lt-ltb}
use Rattle.refusal_text.specs.RefusalText.{cause_number}
use Rattle.check_text.specs.CheckText.{check_cause}
use Rattle.check_text.proofs.CheckTextLaws.{cause-timing, cause-count}
use Rattle.check_text.proofs.call_cause.Goals as goal

pub returns-then-period-eq0 : goal.returns-then-period-eq0
unfolding check_cause cause_number
returns-then-period-eq0 c = rw c.if-period-eq0.true

pub returns-then-period-gt-MAX_PERIOD : goal.returns-then-period-gt-MAX_PERIOD
unfolding check_cause cause_number
returns-then-period-gt-MAX_PERIOD c = rw (ne_eqb _ 0 c.if-period-eq0.false, lt-ltb _ _ c.if-period-gt-MAX_PERIOD.true)

pub returns-then-count-registers_of : goal.returns-then-count-registers_of
unfolding cause_number
returns-then-count-registers_of c =
    cause-timing _ c.if-period-eq0.false c.if-period-gt-MAX_PERIOD.false c.registers_of.ensures c.if-count-registers_of.true

pub returns : goal.returns
unfolding cause_number
returns c =
    cause-count _ c.if-period-eq0.false c.if-period-gt-MAX_PERIOD.false c.registers_of.ensures c.if-count-registers_of.false
