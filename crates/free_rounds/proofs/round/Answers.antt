-- `round`: each pair relaxed once, up or down the list.
-- Invariant: `Part`, the pairs at the first i places have what both rules ask of the times at the start; and k is the place of the next turn.
use Rattle.std.proofs.Common.{arith}
use Rattle.list_format.proofs.ListLaws.{place-below, place-next}
use Rattle.free_rounds.proofs.RoundLaws.{part-turn, part_end}
use Rattle.free_rounds.proofs.round.Goals as goal

pub loop-i-preserved : goal.loop-i-preserved
loop-i-preserved c =
    let below = c.loop-i-test.true in
    let at = c.loop-i.invariant.1 below in (
      part-turn c.requires c.args.down c.loop-i.invariant.0 (rw at (place-below c.args.list.pairs c.args.down below)) at below
          c.pair-p.ensures c.relax-last.ensures,
      λ more. rw (at, c.walk_step-step.ensures) (place-next c.args.list.pairs c.args.down c.loop-i.i (omega arith) more),
    )

pub returns : goal.returns
returns c =
    part_end c.requires c.args.down c.loop-i.invariant.0 c.loop-i-test.false
