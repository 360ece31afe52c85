-- `write_split`: the timings of the split, each in the place of the reach that it is read from.
-- Invariant `Filling`: those of the first i registers are stored.
use Rattle.buffers.proofs.FillLaws.{filled_none, filling-start}
use Rattle.reach.proofs.SweepLaws.{split-turn, split-end}
use Rattle.reach.proofs.write_split.Goals as goal

pub loop-i-init : goal.loop-i-init
loop-i-init c = filling-start (filled_none _)

pub loop-i-preserved : goal.loop-i-preserved
loop-i-preserved c =
    split-turn c.args.offset c.args.two c.loop-i.invariant c.loop-i-test.true c.time_of.ensures

pub returns : goal.returns
returns c =
    split-end c.args.offset c.args.two _ _ c.loop-i.invariant c.loop-i-test.false
