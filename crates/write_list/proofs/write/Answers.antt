-- What is written with the order asked for reads back to the same numbers.
use Rattle.list_format.proofs.WriteLaws.{write-back-as}
use Rattle.write_list.proofs.write.Goals as goal

pub returns : goal.returns
returns c =
    let s = c.args in
    write-back-as s.n s.numbers.now s.needs.now s.answer.now c.write_by.ensures
