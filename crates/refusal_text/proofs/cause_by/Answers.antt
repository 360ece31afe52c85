-- `cause_by`: one answer for the numbers without a row, which mean what 2 does.
use Rattle.std.proofs.Common.{arith}
use Rattle.refusals.specs.Checks.{number_of}
use Rattle.refusal_text.specs.RefusalText.{cause_number}
use Rattle.refusal_text.proofs.RefusalTextLaws.{other-meaning}
use Rattle.refusal_text.proofs.cause_by.Goals as goal

pub returns-in_default : goal.returns-in_default
unfolding cause_number number_of
returns-in_default c =
    other-meaning c.args.number
    (omega arith, (omega arith, (omega arith, (omega arith, (omega arith, tt)))))
    (omega arith, (omega arith, (omega arith, (omega arith, (omega arith, tt)))))
    (omega arith, (omega arith, (omega arith, (omega arith, (omega arith, tt)))))
