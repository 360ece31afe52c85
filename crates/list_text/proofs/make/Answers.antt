-- `make`: a text with a fault gives the line of the fault; the numbers of any other, the list that they make.
use Rattle.scan.proofs.StoredLaws.{stored_short}
use Rattle.list_text.proofs.ListTextLaws.{numbers-some, numbers-most, make-faulty, make-numbers}
use borrow.Author.Rules.{rules}
use Rattle.list_text.proofs.make.Goals as goal

pub put_numbers-requires : goal.put_numbers-requires
put_numbers-requires c =
    let scan = c.scan.ensures in
    let e = c.in-Ok.is in
    ((search rules, stored_short scan e), (numbers-some scan e, numbers-most scan e))

pub returns-in-Err : goal.returns-in-Err
returns-in-Err c = make-faulty c.scan.ensures c.in-Err.is c.tell_fault-size.ensures

pub returns-in-Ok : goal.returns-in-Ok
returns-in-Ok c =
    make-numbers c.scan.ensures c.in-Ok.is c.put_numbers.ensures
