-- `put_words`: a list that is refused gives the line of the refusal; any other, its text.
use Rattle.list_text.proofs.ListTextLaws.{read-few, read-most, read-room, show-refused, show-read}
use borrow.Author.Rules.{rules}
use Rattle.list_text.proofs.put_words.Goals as goal

pub put_read-requires : goal.put_read-requires
put_read-requires c =
    let made = c.read.ensures in
    let e = c.in-Ok.is in
    ((read-most made e, read-few made e), (read-room made e, search rules))

pub returns-in-Err : goal.returns-in-Err
returns-in-Err c =
    show-refused c.read.ensures c.in-Err.is c.tell_refusal-size.ensures

pub returns-in-Ok : goal.returns-in-Ok
returns-in-Ok c =
    show-read c.read.ensures c.in-Ok.is c.put_read.ensures
