-- `write_fault`: the counts refuse, or else the needs, the pairs and the room decide.
use lib.ListN.{length}
use Rattle.timing.specs.Limits.{max_registers, max_pairs}
use Rattle.list_format.specs.Write.{given_count, count_checks, given_body}
use Rattle.list_format.proofs.ListLaws.{same}
use Rattle.list_format.proofs.WriteBack.{few-needs}
use Prim.Native.Nat.{◌*◌, ◌≤◌}
use mathlib.Core.Path.{◌≡◌, sym, ◌∙◌}
use Rattle.std.proofs.Common.{arith, rules}
use borrow.Author.Tests.{ltb-false}
use Rattle.refusals.proofs.CheckLaws.{stop-first, pass-first, passed}
use Rattle.write_list.proofs.Given.fault.Goals as goal

pub body_fault-requires : goal.body_fault-requires
body_fault-requires c =
    let a = c.args in
    let h = passed (count_checks a.self.registers (length a.self.numbers.now) (length a.self.needs.now))
    (sym c.count_fault.ensures ∙ c.in_ok-count_fault.was) in
    let most : a.self.registers ≤ max_registers = ltb-false _ _ h.1.1.0 in
    let few : given_count a.self.numbers.now ≤ max_pairs = ltb-false _ _ h.1.1.1.0 in
    let two : length a.self.needs.now ≡ 2 * a.self.registers = same _ _ h.1.1.1.1.0 in
    (omega (arith, few-needs a.self.registers a.self.needs.now, a.self.counted), (omega arith, (omega arith, omega arith)))

pub returns-in_err-count_fault : goal.returns-in_err-count_fault
returns-in_err-count_fault c =
    let a = c.args in
    let stops = stop-first (count_checks a.self.registers (length a.self.numbers.now) (length a.self.needs.now))
    (given_body a.asked a.self.registers a.self.numbers.now a.self.needs.now (given_count a.self.numbers.now) a.room)
    (sym c.count_fault.ensures ∙ c.in_err-count_fault.was) in
    search (rules, stops)

pub returns : goal.returns
returns c = c.body_fault.ensures ∙ sym (pass-first _ _ (sym c.count_fault.ensures ∙ c.in_ok-count_fault.was))
