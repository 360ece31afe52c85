-- The kinds first, then the values.
use Rattle.std.proofs.Common.{◌+◌, sym, ◌∙◌, arith, rules}
use Rattle.refusals.proofs.CheckLaws.{stop-first, pass-first}
use Rattle.list_format.proofs.NeedsLaws.{needs-few}
use Rattle.list_format.specs.Lists.{word, hold_at, pair_place, written_at, kind_checks, value_checks}
use Rattle.delay_list.proofs.Layout.own_fault.Goals as goal

pub pair_place-at-requires : goal.pair_place-at-requires
pair_place-at-requires c = omega (arith, needs-few c.args.self.words.now)

pub kind_fault-requires : goal.kind_fault-requires
kind_fault-requires c = omega (arith, needs-few c.args.self.words.now)

pub returns-in_err-kind_fault : goal.returns-in_err-kind_fault
returns-in_err-kind_fault c =
    let ws = c.args.self.words.now in
    let at = pair_place ws c.args.k in
    let p = written_at ws c.args.k in
    let stops = stop-first (kind_checks (word ws at) (word ws (at + 1)) (word ws (at + 2)) at)
    (value_checks c.args.n (hold_at ws p.capture) p at (at + 1) (at + 2))
    (rw (c.pair_place-at.ensures, c.args.self.counted) at (sym c.kind_fault.ensures ∙ c.in_err-kind_fault.was)) in
    search (rules, stops)

pub returns : goal.returns
returns c =
    let kinds = rw (c.pair_place-at.ensures, c.args.self.counted) at (sym c.kind_fault.ensures ∙ c.in_ok-kind_fault.was) in
    c.value_fault.ensures
    ∙ rw (c.hold-hold.ensures, c.pair_of-p.ensures, c.pair_place-at.ensures, c.args.self.counted) (sym (pass-first _ _ kinds))
