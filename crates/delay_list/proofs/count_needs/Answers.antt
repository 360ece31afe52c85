-- By the second word; the word of needs of a register stands in the list, and with it counted in the pair is in range.
use Rattle.std.proofs.Common.{◌<◌, arith}
use Rattle.list_format.specs.Lists.{need_words}
use Rattle.list_format.proofs.ListLaws.{none_below, needs-from}
use Rattle.list_format.proofs.NeedsLaws.{hold_at_lem, setup-at, counting-none, counting-at}
use Rattle.delay_list.proofs.count_needs.Goals as goal

pub with_needs-requires : goal.with_needs-requires
with_needs-requires c =
    let ws = c.args.words.now in
    let w = c.requires.1 in
    let all = needs-from ws c.args.k c.requires.0 c.if-words-ge-FIRST_NEEDS.true in
    let below : c.args.p.capture < need_words ws = omega (arith, w.values.capture, all) in
    rw c.need_at.ensures (rw (hold_at_lem ws below) at w.holds, rw (setup-at ws below) at w.values.limit)

pub returns-then-words-ge-FIRST_NEEDS : goal.returns-then-words-ge-FIRST_NEEDS
returns-then-words-ge-FIRST_NEEDS c =
    let ws = c.args.words.now in
    let all = needs-from ws c.args.k c.requires.0 c.if-words-ge-FIRST_NEEDS.true in
    let below : c.args.p.capture < need_words ws = omega (arith, c.requires.1.values.capture, all) in
    rw (c.with_needs.ensures, c.need_at.ensures) (counting-at ws c.args.p below)

pub returns : goal.returns
returns c =
    counting-none c.args.words.now c.args.p (none_below c.args.words.now c.if-words-ge-FIRST_NEEDS.false)
