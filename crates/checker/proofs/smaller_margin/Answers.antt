-- `smaller_margin`: hold where its margin is below that of setup, else setup.
use Rattle.timing.proofs.MarginLaws.{as_read}
use Rattle.checker.proofs.MarginLaws.{hold-lower, hold-not-lower}
use Rattle.checker.proofs.smaller_margin.Goals as goal

pub returns-then-hold-setup : goal.returns-then-hold-setup
returns-then-hold-setup c =
    let a = c.args in
    let setup = as_read c.setup_margin-setup.result c.setup_margin-setup.type_inv in
    let hold = as_read c.hold_margin-hold.result c.hold_margin-hold.type_inv in
    rw hold
    (hold-lower a.period a.timings.now c.pair-p.ensures c.setup_margin-setup.ensures c.hold_margin-hold.ensures
    (rw (hold, setup) at c.if-hold-setup.true))

pub returns : goal.returns
returns c =
    let a = c.args in
    let setup = as_read c.setup_margin-setup.result c.setup_margin-setup.type_inv in
    let hold = as_read c.hold_margin-hold.result c.hold_margin-hold.type_inv in
    rw setup
    (hold-not-lower a.period a.timings.now c.pair-p.ensures c.setup_margin-setup.ensures c.hold_margin-hold.ensures
    (rw (hold, setup) at c.if-hold-setup.false))
