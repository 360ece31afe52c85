-- `meets`: whether the setup margin of pair k is not negative, and then that of hold, at the timings of its two registers.
use Rattle.timing.proofs.MarginLaws.{as_read}
use Rattle.checker.proofs.MarginLaws.{met-both, met-not}
use Rattle.checker.proofs.meets.Goals as goal

pub returns-then-setup_margin-lt0 : goal.returns-then-setup_margin-lt0
returns-then-setup_margin-lt0 c =
    let a = c.args in
    let x = as_read c.setup_margin.result c.setup_margin.type_inv in
    met-not a.period a.timings.now c.pair-p.ensures c.setup_margin.ensures (rw x at c.if-setup_margin-lt0.true)

pub returns : goal.returns
returns c =
    let a = c.args in
    let x = as_read c.setup_margin.result c.setup_margin.type_inv in
    rw (as_read c.hold_margin.result c.hold_margin.type_inv)
    (met-both a.period a.timings.now c.pair-p.ensures c.setup_margin.ensures c.hold_margin.ensures (rw x at c.if-setup_margin-lt0.false))
