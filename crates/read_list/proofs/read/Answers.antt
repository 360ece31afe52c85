-- One law for each way to end.
use Rattle.std.proofs.Common.{◌≡◌, ◌*◌, sym, ◌∙◌, ap, arith, rules, ltb-true, ltb-false}
use Rattle.std.specs.Prelude.{Err}
use Rattle.buffers.proofs.FillLaws.{over-more}
use Rattle.refusals.proofs.ReplyLaws.{check-fails, check-holds}
use Rattle.list_format.specs.Lists.{needs_of}
use Rattle.list_format.specs.Read.{numbers_of}
use Rattle.list_format.proofs.ListLaws.{accepted→none, accepted-in}
use Rattle.list_format.proofs.ReadBack.{numbers-length}
use Rattle.list_format.proofs.ReadLaws.{read-refused, read_short, read_done}
use Rattle.read_list.proofs.read.Goals as goal

pub returns-in_err-counts : goal.returns-in_err-counts
returns-in_err-counts c =
    let is : c.from_residual.result ≡ Err c.in_err-counts.field-0.0 = search rules in
    rw is (read-refused c.args.words.now c.args.answer.now (sym c.verdict.ensures ∙ c.in_err-counts.was))

pub returns-in_err-check : goal.returns-in_err-check
returns-in_err-check c =
    let fails = check-fails _ _ _ (sym c.check.ensures ∙ c.in_err-check.was) in
    let is : c.from_residual-in_err-check.result ≡ Err c.in_err-check.field-0.0 = search rules in
    rw (is, fails.1)
    (read_short c.args.words.now c.args.answer.now (sym c.verdict.ensures ∙ c.in_ok-counts.was) (ltb-true _ _ fails.0))

pub fill-requires : goal.fill-requires
fill-requires c =
    let a = accepted→none c.args.words.now (sym c.verdict.ensures ∙ c.in_ok-counts.was) in
    let room = ltb-false _ _ (check-holds _ _ _ (sym c.check.ensures ∙ c.in_ok-check.was)) in
    (a.list.accepted, omega (arith, a.list.pairs_are, room))

pub fill_needs-requires : goal.fill_needs-requires
fill_needs-requires c =
    let ws = c.args.words.now in
    let a = accepted→none ws (sym c.verdict.ensures ∙ c.in_ok-counts.was) in
    let room = ltb-false _ _ (check-holds _ _ _ (sym c.check.ensures ∙ c.in_ok-check.was)) in
    let h = (accepted-in ws a.list.accepted).head in
    (a.list.registers_are, (omega (arith, h.size), omega (arith, c.fill.auto.answer, room)))

pub returns : goal.returns
returns c =
    let a = c.args in
    let ws = a.words.now in
    let v = sym c.verdict.ensures ∙ c.in_ok-counts.was in
    let count = (accepted→none ws v).list.pairs_are in
    let room = ltb-false _ _ (check-holds _ _ _ (sym c.check.ensures ∙ c.in_ok-check.was)) in
    read_done ws a.answer.now v _ room
    (c.fill_needs.ensures
    ∙ over-more (numbers_of ws) (needs_of ws) a.answer.now (numbers-length ws ∙ ap (λ k. 4 * k) (sym count)) c.fill.ensures)
