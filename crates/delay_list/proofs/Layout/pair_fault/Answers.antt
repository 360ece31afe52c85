-- What the pair is refused for by itself comes first, then its order.
use Rattle.std.proofs.Common.{[], ◌∷◌, sym, ◌∙◌, rules}
use Rattle.refusals.proofs.CheckLaws.{stop-first, pass-first}
use Rattle.list_format.specs.Lists.{own_checks, order_check, written_at, pair_place}
use Rattle.delay_list.proofs.Layout.pair_fault.Goals as goal

pub returns-in_err-own_fault : goal.returns-in_err-own_fault
returns-in_err-own_fault c =
    let a = c.args in
    let ws = a.self.words.now in
    let stops = stop-first (own_checks ws a.n a.k) (order_check a.asked (written_at ws) a.k (pair_place ws a.k) ∷ [])
    (sym c.own_fault.ensures ∙ c.in_err-own_fault.was) in
    search (rules, stops)

pub returns : goal.returns
returns c = c.order_fault.ensures ∙ sym (pass-first _ _ (sym c.own_fault.ensures ∙ c.in_ok-own_fault.was))
