-- An order that is not asked for is met, and so is that of the first pair; a later one is compared with the one before it.
use Prim.Native.Nat.{◌<◌}
use mathlib.Core.Path.{sym, ◌∙◌}
use native.Mathlib.Omega.{arith}
use Rattle.list_format.specs.Write.{given_pair}
use Rattle.list_format.proofs.ListLaws.{order-unasked, order-first, order-later}
use Rattle.write_list.proofs.order_fault.Goals as goal

pub returns-then-not-asked : goal.returns-then-not-asked
returns-then-not-asked c =
    let a = c.args in
    sym (order-unasked a.asked (given_pair a.numbers.now) a.k a.k c.if-not-asked.true)

pub returns-then-k-eq0 : goal.returns-then-k-eq0
returns-then-k-eq0 c =
    let a = c.args in
    sym (order-first a.asked (given_pair a.numbers.now) a.k a.k c.if-k-eq0.true)

pub returns : goal.returns
returns c =
    let a = c.args in
    let some : 0 < a.k = omega (arith, c.if-k-eq0.false) in
    let asked = c.if-not-asked.false in
    c.check.ensures
    ∙ rw (
      c.key.ensures,
      c.key-below.ensures,
      c.given_pair-p.ensures,
      c.given_pair-last.ensures,
    ) (sym (order-later a.asked (given_pair a.numbers.now) a.k a.k asked some))
