-- The words of needs come first, then the pairs and the end.
use Rattle.std.proofs.Common.{sym, ◌∙◌, rules}
use Rattle.refusals.proofs.CheckLaws.{stop-first, pass-first}
use Rattle.list_format.specs.Lists.{need_words, block_checks, pairs_checks}
use Rattle.delay_list.proofs.Layout.body_fault.Goals as goal

pub returns-in_err-block_fault : goal.returns-in_err-block_fault
returns-in_err-block_fault c =
    let a = c.args in
    let ws = a.self.words.now in
    let stops = stop-first (block_checks ws (need_words ws)) (pairs_checks a.asked ws a.n a.m)
    (rw c.args.self.counted at (sym c.block_fault.ensures ∙ c.in_err-block_fault.was)) in
    search (rules, stops)

pub returns : goal.returns
returns c = c.pairs_fault.ensures ∙ sym (pass-first _ _ (rw c.args.self.counted at (sym c.block_fault.ensures ∙ c.in_ok-block_fault.was)))
