-- `put_text`: a list that is refused gives the line of the refusal; any other, the text of its plan. One law for each.
use Prim.Native.Nat.{◌*◌}
use mathlib.Core.Path.{◌≡◌}
use native.Mathlib.Omega.{arith}
use lib.ListN.{length}
use Rattle.timing.specs.Limits.{max_registers}
use Rattle.report.proofs.ReportLaws.{text-refused, planned-in, text-planned}
use Rattle.report.proofs.put_text.Goals as goal

pub bounds-words-0 : goal.bounds-words-0
bounds-words-0 c =
    let head = planned-in c.plan.ensures c.in-Ok.is in
    omega (arith, head.size)

pub put_planned-requires : goal.put_planned-requires
put_planned-requires c =
    let head = planned-in c.plan.ensures c.in-Ok.is in
    let n = c.head_registers-n.ensures in
    let size : length c.plan.new.answer ≡ 2 * max_registers = c.plan.auto.answer in
    (omega (arith, head.most, n), omega (arith, head.most, n))

pub returns-in-Err : goal.returns-in-Err
returns-in-Err c =
    text-refused c.plan.ensures c.in-Err.is (rw c.number.ensures at c.put_refused.ensures)

pub returns-in-Ok : goal.returns-in-Ok
returns-in-Ok c =
    text-planned c.plan.ensures c.in-Ok.is c.head_registers-n.ensures
    c.put_planned.ensures
