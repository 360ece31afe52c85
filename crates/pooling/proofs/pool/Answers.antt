-- The first list is refused, or the second, or both are accepted.
use Rattle.std.proofs.Common.{◌≡◌, sym, ◌∙◌, arith, rules}
use Rattle.std.specs.Prelude.{Err}
use Rattle.list_format.proofs.ListLaws.{accepted-in, accepted→none}
use Rattle.pooling.specs.declared.PoolPart.TheVariants.{First, Second}
use Rattle.pooling.proofs.CallLaws.{part-refused, part-passed, pool-first-refused, pool-second-refused, pooled-lent}
use Rattle.pooling.proofs.pool.Goals as goal

pub returns-in_err-one : goal.returns-in_err-one
returns-in_err-one c =
    let one = part-refused First c.verdict.result c.of.ensures c.in_err-one.was in
    let is : c.from_residual.result ≡ Err c.in_err-one.field-0.0 = search rules in
    rw (is, one.told) (pool-first-refused c.args.first.now c.args.second.now c.args.answer.now (sym c.verdict.ensures ∙ one.was))

pub returns-in_err-other : goal.returns-in_err-other
returns-in_err-other c =
    let one = (accepted→none c.args.first.now (sym c.verdict.ensures ∙ part-passed First c.verdict.result c.of.ensures c.in_ok-one.was)).list in
    let other = part-refused Second c.verdict-2.result c.of-2.ensures c.in_err-other.was in
    let is : c.from_residual-in_err-other.result ≡ Err c.in_err-other.field-0.0 = search rules in
    rw (is, other.told)
    (pool-second-refused c.args.first.now c.args.second.now c.args.answer.now one.accepted (sym c.verdict-2.ensures ∙ other.was))

pub of-left-requires : goal.of-left-requires
of-left-requires c =
    let one = (accepted→none c.args.first.now (sym c.verdict.ensures ∙ part-passed First c.verdict.result c.of.ensures c.in_ok-one.was)).list in
    omega (arith, (accepted-in c.args.first.now one.accepted).head.size)

pub of-right-requires : goal.of-right-requires
of-right-requires c =
    let other = (accepted→none c.args.second.now (sym c.verdict-2.ensures ∙ part-passed Second c.verdict-2.result c.of-2.ensures c.in_ok-other.was)).list in
    omega (arith, (accepted-in c.args.second.now other.accepted).head.size)

pub pool_accepted-requires : goal.pool_accepted-requires
pool_accepted-requires c =
    let one = (accepted→none c.args.first.now (sym c.verdict.ensures ∙ part-passed First c.verdict.result c.of.ensures c.in_ok-one.was)).list in
    let other = (accepted→none c.args.second.now (sym c.verdict-2.ensures ∙ part-passed Second c.verdict-2.result c.of-2.ensures c.in_ok-other.was)).list in
    rw (c.of-left.ensures, c.of-right.ensures) ((one.accepted, one.registers_are), (other.accepted, other.registers_are))

pub returns : goal.returns
returns c = pooled-lent c.of-left.ensures c.of-right.ensures c.pool_accepted.ensures
