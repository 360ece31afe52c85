-- The three words stand in the list.
use Rattle.std.proofs.Common.{arith}
use Rattle.list_format.proofs.ListLaws.{is-written}
use Rattle.list_format.proofs.NeedsLaws.{needs-few}
use Rattle.delay_list.proofs.Layout.written.Goals as goal

pub returns : goal.returns
returns c =
    rw (c.pair_of.ensures, c.pair_place-first.ensures, c.args.self.counted)
    (is-written c.args.self.words.now c.args.k c.requires)

pub pair_place-first-requires : goal.pair_place-first-requires
pair_place-first-requires c = (omega (arith, needs-few c.args.self.words.now, c.args.self.counted), omega (arith, c.requires.below, c.requires.usable.few))
