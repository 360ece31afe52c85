-- `write_by`: a refusal keeps the buffer, and numbers that pass every check are written as their list. One law for each.
use Rattle.std.proofs.Common.{◌≡◌, sym, ◌∙◌, rules}
use Rattle.std.specs.Prelude.{Err}
use Rattle.list_format.proofs.WriteBack.{given-in}
use Rattle.list_format.proofs.WriteLaws.{write-refused, write-room, write_done}
use Rattle.write_list.proofs.write_by.Goals as goal

pub put-requires : goal.put-requires
put-requires c =
    let s = c.args in
    let none = sym c.fault.ensures ∙ c.in_ok-fault.was in (
      given-in s.asked s.n s.numbers.now s.needs.now _ none,
      write-room s.n s.numbers.now s.needs.now s.answer.now s.asked none,
    )

pub returns-in_err-fault : goal.returns-in_err-fault
returns-in_err-fault c =
    let s = c.args in
    let is : c.from_residual.result ≡ Err c.in_err-fault.field-0.0 = search rules in
    rw is (write-refused s.n s.numbers.now s.needs.now s.answer.now s.asked (sym c.fault.ensures ∙ c.in_err-fault.was))

pub returns : goal.returns
returns c =
    let s = c.args in
    let none = sym c.fault.ensures ∙ c.in_ok-fault.was in
    let list = c.put.ensures in
    write_done s.n s.numbers.now s.needs.now s.answer.now s.asked none _ _ list.0 list.1
