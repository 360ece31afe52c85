-- The head decides, or else what stands after it, or else the list is accepted.
use Rattle.std.proofs.Common.{◌≡◌, sym, ◌∙◌, arith, rules}
use Rattle.list_format.specs.Lists.{need_words}
use Rattle.list_format.proofs.ListLaws.{head-refuses, body-refuses, body-accepts, head_in}
use Rattle.delay_list.proofs.verdict_by.Goals as goal

pub returns-in_err-head_fault : goal.returns-in_err-head_fault
returns-in_err-head_fault c =
    let stops = head-refuses c.args.asked c.args.words.now
    (rw (c.word_at-head.ensures, c.word_at-second.ensures) at (sym c.head_fault.ensures ∙ c.in_err-head_fault.was)) in
    search (rules, stops)

pub invariant_of-list : goal.invariant_of-list
invariant_of-list c =
    let h = head_in c.args.words.now
    (rw (c.word_at-head.ensures, c.word_at-second.ensures) at (sym c.head_fault.ensures ∙ c.in_ok-head_fault.was)) in
    let is : c.need_words.result ≡ need_words c.args.words.now =
    rw (c.word_at-head.ensures, c.word_at-second.ensures) at c.need_words.ensures.0 in
    record { counted = is; inside = omega (arith, is, h.size) }

pub body_fault-requires : goal.body_fault-requires
body_fault-requires c =
    let h = head_in c.args.words.now
    (rw (c.word_at-head.ensures, c.word_at-second.ensures) at (sym c.head_fault.ensures ∙ c.in_ok-head_fault.was)) in
    rw (c.head_pairs-m.ensures, c.word_at-head.ensures) (omega arith, h.size)

pub returns-in_err-body_fault : goal.returns-in_err-body_fault
returns-in_err-body_fault c =
    let h = rw (c.word_at-head.ensures, c.word_at-second.ensures) at (sym c.head_fault.ensures ∙ c.in_ok-head_fault.was) in
    let b = rw (c.head_pairs-m.ensures, c.head_registers-n.ensures, c.word_at-head.ensures) at
    (sym c.body_fault.ensures ∙ c.in_err-body_fault.was) in
    let stops = body-refuses c.args.asked c.args.words.now h b in
    search (rules, stops)

pub returns : goal.returns
returns c =
    let h = rw (c.word_at-head.ensures, c.word_at-second.ensures) at (sym c.head_fault.ensures ∙ c.in_ok-head_fault.was) in
    let b = rw (c.head_pairs-m.ensures, c.head_registers-n.ensures, c.word_at-head.ensures) at
    (sym c.body_fault.ensures ∙ c.in_ok-body_fault.was) in
    rw (c.head_pairs-m.ensures, c.head_registers-n.ensures, c.word_at-head.ensures)
    (sym (body-accepts c.args.asked c.args.words.now h b))
