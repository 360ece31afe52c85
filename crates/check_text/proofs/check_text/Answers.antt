-- `check_text`: a fault in the text of the schedule comes first; its numbers are then checked against the list.
use Rattle.check_text.proofs.CheckTextLaws.{text-faulty, text-numbers}
use Rattle.check_text.proofs.check_text.Goals as goal

pub returns-in-Err : goal.returns-in-Err
returns-in-Err c = text-faulty c.scan.ensures _ _ c.in-Err.is c.tell_fault-size.ensures

pub returns-in-Ok : goal.returns-in-Ok
returns-in-Ok c =
    text-numbers c.scan.ensures c.in-Ok.is _ _ c.put_against.ensures
