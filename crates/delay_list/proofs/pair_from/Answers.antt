-- By the word after the head: a word of needs, or the first of a pair. Only the first is as large as FIRST_NEEDS.
use Rattle.std.proofs.Common.{◌≡◌, sym, ◌∙◌, arith}
use Rattle.list_format.specs.Lists.{need_words}
use Rattle.list_format.proofs.ListLaws.{none_below, needs-from}
use Rattle.delay_list.proofs.pair_from.Goals as goal

pub invariant_of-written : goal.invariant_of-written
invariant_of-written c =
    let all = needs-from c.args.words.now c.args.k c.requires c.if-words-ge-FIRST_NEEDS.true in
    let is : c.head_registers-needs.result ≡ need_words c.args.words.now = c.head_registers-needs.ensures ∙ sym all in
    record { counted = is; inside = omega (arith, is, c.requires.usable.size) }

pub invariant_of-written-2 : goal.invariant_of-written-2
invariant_of-written-2 c =
    let none = none_below c.args.words.now c.if-words-ge-FIRST_NEEDS.false in
    record { counted = sym none; inside = omega (arith, c.requires.usable.size) }
