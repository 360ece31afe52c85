-- An order that is not asked for is met, and so is that of the first pair; a later one is compared with the one before it.
use Rattle.std.proofs.Common.{◌≡◌, ◌-◌, ◌<◌, sym, ◌∙◌, arith}
use Rattle.list_format.specs.Lists.{pair_place, written_at}
use Rattle.list_format.proofs.ListLaws.{order-unasked, order-first, order-later}
use Rattle.list_format.proofs.NeedsLaws.{needs-few}
use Rattle.delay_list.proofs.Layout.order_fault.Goals as goal

pub returns-then-not-asked : goal.returns-then-not-asked
returns-then-not-asked c =
    let a = c.args in
    sym (order-unasked a.asked (written_at a.self.words.now) a.k (pair_place a.self.words.now a.k) c.if-not-asked.true)

pub returns-then-k-eq0 : goal.returns-then-k-eq0
returns-then-k-eq0 c =
    let a = c.args in
    sym (order-first a.asked (written_at a.self.words.now) a.k (pair_place a.self.words.now a.k) c.if-k-eq0.true)

pub pair_place-at-requires : goal.pair_place-at-requires
pair_place-at-requires c =
    (omega (arith, c.args.self.counted, needs-few c.args.self.words.now), omega (arith, c.requires.0))

pub returns : goal.returns
returns c =
    let a = c.args in
    let ws = a.self.words.now in
    let f = written_at ws in
    let some : 0 < a.k = omega (arith, c.if-k-eq0.false) in
    let asked = c.if-not-asked.false in
    let last : pair_place ws a.k - 3 ≡ pair_place ws (a.k - 1) = omega arith in
    c.check.ensures
    ∙ rw (
      c.key_of.ensures,
      c.key_of-last.ensures,
      c.pair_place-at.ensures,
      c.args.self.counted,
      last,
    ) (sym (order-later a.asked f a.k (pair_place ws a.k) asked some))
