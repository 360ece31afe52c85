-- `given_needs`: none if all needs are 0, else one for each register.
use mathlib.Core.Path.{sym, ◌∙◌}
use Rattle.list_format.proofs.WriteBack.{given-none, given-all}
use Rattle.write_list.proofs.given_needs.Goals as goal

pub returns-then-none_needed : goal.returns-then-none_needed
returns-then-none_needed c =
    let a = c.args in
    sym (given-none a.n a.needs.now (sym c.none_needed.ensures ∙ c.if-none_needed.true))

pub returns : goal.returns
returns c =
    let a = c.args in
    sym (given-all a.n a.needs.now (sym c.none_needed.ensures ∙ c.if-none_needed.false))
