-- `pairs_fault`: the first fault of the pairs, one by one, and of the end.
-- Invariant `Remaining`: what is left of the checks decides as the whole does.
use Rattle.std.proofs.Common.{arith, rules}
use Rattle.refusals.proofs.CheckLaws.{remaining-turn, remaining-stops, remaining-end}
use Rattle.list_format.proofs.NeedsLaws.{needs-few}
use Rattle.delay_list.proofs.Layout.pairs_fault.Goals as goal

pub returns-in_err-pair_fault : goal.returns-in_err-pair_fault
returns-in_err-pair_fault c =
    let stops = remaining-stops _ _ _ c.loop-k.invariant (omega arith) c.pair_fault.ensures c.in_err-pair_fault.was in
    search (rules, stops)

pub loop-k-preserved : goal.loop-k-preserved
loop-k-preserved c = remaining-turn _ _ _ c.loop-k.invariant (omega arith) c.pair_fault.ensures c.in_ok-pair_fault.was

pub pair_place-requires : goal.pair_place-requires
pair_place-requires c = omega (arith, needs-few c.args.self.words.now)

pub returns : goal.returns
returns c =
    remaining-end _ _ _ c.loop-k.invariant (omega arith) (rw (c.pair_place.ensures, c.args.self.counted) at c.end_fault.ensures)
