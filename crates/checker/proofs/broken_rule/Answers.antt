-- `broken_rule`: setup where its margin is negative, else hold; so setup is named before hold.
use Rattle.timing.proofs.MarginLaws.{as_read}
use Rattle.checker.proofs.MarginLaws.{breaks-hold, breaks-setup}
use Rattle.checker.proofs.broken_rule.Goals as goal

pub returns-then-setup_margin-ge0 : goal.returns-then-setup_margin-ge0
returns-then-setup_margin-ge0 c =
    let a = c.args in
    let x = as_read c.setup_margin.result c.setup_margin.type_inv in
    breaks-hold a.period a.timings.now c.pair-p.ensures c.setup_margin.ensures (rw x at c.if-setup_margin-ge0.true)

pub returns : goal.returns
returns c =
    let a = c.args in
    let x = as_read c.setup_margin.result c.setup_margin.type_inv in
    breaks-setup a.period a.timings.now c.pair-p.ensures c.setup_margin.ensures (rw x at c.if-setup_margin-ge0.false)
