-- `trace`: the steps from register r up to its root. Invariant `Tracing`.
use mathlib.Core.Path.{refl}
use Rattle.blocking.proofs.StoreLaws.{tracing-start, tracing-few, tracing-reads, tracing-writes}
use Rattle.blocking.proofs.StoreLaws.{tracing-pair, tracing-turn}
use native.Mathlib.Omega.{arith}
use borrow.Author.Rules.{rules}
use Rattle.blocking.proofs.trace.Goals as goal

pub loop-i-init : goal.loop-i-init
loop-i-init c =
    (c.requires, tracing-start c.args.list.words.now c.args.list.registers c.args.list.pairs c.args.r c.args.scratch.now c.requires refl)

pub overflow_add-step : goal.overflow_add-step
overflow_add-step c =
    let l = c.loop-i.invariant in
    search (rules, (tracing-few c.args.list.words.now c.args.list.registers c.args.list.pairs c.args.r c.args.scratch.now l.0 l.1 (omega arith)).0)

pub offset_bounds-scratch-n : goal.offset_bounds-scratch-n
offset_bounds-scratch-n c =
    let l = c.loop-i.invariant in
    search (rules, (tracing-few c.args.list.words.now c.args.list.registers c.args.list.pairs c.args.r c.args.scratch.now l.0 l.1 (omega arith)).0)

pub bounds-scratch-n : goal.bounds-scratch-n
bounds-scratch-n c =
    let l = c.loop-i.invariant in
    tracing-reads c.args.list.words.now c.args.list.registers c.args.list.pairs c.args.r c.args.scratch.now l.0 l.1 (omega arith)

pub bounds-scratch-n-in-loop-i : goal.bounds-scratch-n-in-loop-i
bounds-scratch-n-in-loop-i c =
    let l = c.loop-i.invariant in
    tracing-writes c.args.list.words.now c.args.list.registers c.args.list.pairs c.args.r c.args.scratch.now l.0 l.1 (omega arith)

pub source-at-requires : goal.source-at-requires
source-at-requires c =
    let l = c.loop-i.invariant in
    tracing-pair c.args.list.words.now c.args.list.registers c.args.list.pairs c.args.r c.args.scratch.now l.0 l.1 (omega arith)

pub loop-i-preserved : goal.loop-i-preserved
loop-i-preserved c =
    let l = c.loop-i.invariant in
    (l.0, tracing-turn c.args.list.words.now c.args.list.registers c.args.list.pairs c.args.r c.args.scratch.now l.0 l.1 (omega arith) c.source-at.ensures)
