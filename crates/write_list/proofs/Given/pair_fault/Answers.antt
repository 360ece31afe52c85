-- What the pair is refused for by itself comes first, then its order.
use Rattle.std.proofs.Common.{[], ◌∷◌, sym, ◌∙◌, rules}
use Rattle.refusals.proofs.CheckLaws.{stop-first, pass-first}
use Rattle.list_format.specs.Lists.{value_checks, order_check}
use Rattle.list_format.specs.Write.{given_pair, given_hold}
use Rattle.write_list.proofs.Given.pair_fault.Goals as goal

pub returns-in_err-value_fault : goal.returns-in_err-value_fault
returns-in_err-value_fault c =
    let a = c.args in
    let f = given_pair a.self.numbers.now in
    let own = rw (c.given_hold-hold.ensures, c.given_pair-p.ensures) at c.value_fault.ensures in
    let stops = stop-first (value_checks a.self.registers (given_hold a.self.needs.now (f a.k).capture) (f a.k) a.k a.k a.k)
    (order_check a.asked f a.k a.k ∷ []) (sym own ∙ c.in_err-value_fault.was) in
    search (rules, stops)

pub returns : goal.returns
returns c =
    let own = rw (c.given_hold-hold.ensures, c.given_pair-p.ensures) at c.value_fault.ensures in
    c.order_fault.ensures ∙ sym (pass-first _ _ (sym own ∙ c.in_ok-value_fault.was))
