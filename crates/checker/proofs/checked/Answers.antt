-- `checked`: no pairs, or what the walk over them has come to: no margin is negative, or the first pair with one, and its rule.
use native.Mathlib.Omega.{arith}
use Rattle.timing.proofs.MarginLaws.{as_read}
use Rattle.checker.proofs.CheckLaws.{by-none, by-met, by-broken, broken-in}
use Rattle.checker.proofs.checked.Goals as goal

pub returns-then-list-eq0 : goal.returns-then-list-eq0
returns-then-list-eq0 c =
    by-none c.args.period c.args.timings.now c.args.list.usable c.if-list-eq0.true

pub returns-then-smallest-ge0 : goal.returns-then-smallest-ge0
returns-then-smallest-ge0 c =
    let x = as_read c.walked-walk.result.smallest.margin c.struct_told-1.given.0.1 in
    by-met c.args.period c.args.timings.now c.args.list.usable c.walked-walk.ensures (omega arith) (rw x at c.if-smallest-ge0.true)

pub broken_rule-rule-requires : goal.broken_rule-rule-requires
broken_rule-rule-requires c =
    let x = as_read c.walked-walk.result.smallest.margin c.struct_told-1.given.0.1 in
    let b = broken-in c.args.period c.args.timings.now c.args.list.usable c.walked-walk.ensures (omega arith) (rw x at c.if-smallest-ge0.false) in
    record { below = omega (arith, b.below, c.args.list.usable.pairs_are); timings_len = c.requires }

pub returns : goal.returns
returns c =
    let x = as_read c.walked-walk.result.smallest.margin c.struct_told-1.given.0.1 in
    by-broken c.args.period c.args.timings.now c.args.list.usable c.walked-walk.ensures (omega arith) (rw x at c.if-smallest-ge0.false)
    c.broken_rule-rule.ensures
