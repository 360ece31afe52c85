-- `fault_by`: one answer for the numbers without a row, which are told as 7 is.
use Rattle.std.proofs.Common.{arith}
use Rattle.refusal_text.specs.RefusalText.{fault_number}
use Rattle.refusal_text.proofs.RefusalTextLaws.{other-trouble}
use Rattle.refusal_text.proofs.fault_by.Goals as goal

pub returns-in_default : goal.returns-in_default
unfolding fault_number
returns-in_default c =
    other-trouble c.args.fault (omega arith, (omega arith, (omega arith, (omega arith, (omega arith, (omega arith, (omega arith, tt)))))))
