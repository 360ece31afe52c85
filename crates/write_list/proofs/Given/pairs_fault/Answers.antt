-- `pairs_fault`: the first refusal of the pairs, each with its registers and delays, and then of the room.
-- Invariant `Remaining`: the checks of pair k and later ones decide as the whole run does.
use Rattle.std.proofs.Common.{arith, rules}
use Rattle.refusals.specs.Checks.{or_check, fault_after}
use Rattle.refusals.proofs.CheckLaws.{remaining-turn, remaining-stops, remaining-end}
use Rattle.write_list.proofs.Given.pairs_fault.Goals as goal

pub returns-in_err-pair_fault : goal.returns-in_err-pair_fault
returns-in_err-pair_fault c =
    let stops = remaining-stops _ _ _ c.loop-k.invariant (omega arith) c.pair_fault.ensures c.in_err-pair_fault.was in
    search (rules, stops)

pub loop-k-preserved : goal.loop-k-preserved
loop-k-preserved c = remaining-turn _ _ _ c.loop-k.invariant (omega arith) c.pair_fault.ensures c.in_ok-pair_fault.was

pub returns : goal.returns
unfolding or_check fault_after
returns c =
    let at = c.loop-k in
    remaining-end _ _ _ at.invariant (omega arith) (rw (c.pair_place-places.ensures, c.args.self.counted) at c.check.ensures)
