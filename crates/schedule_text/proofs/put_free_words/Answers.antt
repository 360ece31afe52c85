-- `put_free_words`: a list that is refused gives the line of the refusal; any other, its periods and its free schedule.
use mathlib.Core.Path.{◌≡◌}
use native.Mathlib.Omega.{arith}
use lib.ListN.{length}
use Rattle.timing.specs.Limits.{max_registers}
use Rattle.schedule_text.proofs.ScheduleTextLaws.{free_in, free-refused, free-periods}
use Rattle.schedule_text.proofs.put_free_words.Goals as goal

pub bounds-words-0 : goal.bounds-words-0
bounds-words-0 c =
    omega (arith, (free_in c.free.ensures c.in-Ok.is).size)

pub put_free-requires : goal.put_free-requires
put_free-requires c =
    let head = free_in c.free.ensures c.in-Ok.is in
    let n = c.head_registers-n.ensures in
    let size : length c.free.new.answer ≡ max_registers = c.free.auto.answer in
    (omega (arith, head.most, n), omega (arith, head.most, n))

pub returns-in-Err : goal.returns-in-Err
returns-in-Err c =
    free-refused c.free.ensures c.in-Err.is c.tell_refusal-size.ensures

pub returns-in-Ok : goal.returns-in-Ok
returns-in-Ok c =
    free-periods c.free.ensures c.in-Ok.is c.head_registers-n.ensures c.put_free.ensures
