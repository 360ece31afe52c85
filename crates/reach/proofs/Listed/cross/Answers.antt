-- `cross`: from its launch the capture of pair k is raised to what the pair forces, from its capture the launch; so each stays a reach
-- (`pair-ahead`, `pair-behind`), and below what the pair asks for no split works.
use native.Mathlib.Omega.{arith}
use Rattle.reach.proofs.SweepLaws.{guided-start, pair-raisable, pair-ahead, pair-asked, pair-behind}
use Rattle.reach.proofs.Listed.cross.Goals as goal

pub raise_capture-raised-requires : goal.raise_capture-raised-requires
raise_capture-raised-requires c =
    pair-raisable c.requires.0 c.pair-p.ensures (omega (arith, c.requires.0.list.pairs_are))

pub returns-then-launch : goal.returns-then-launch
returns-then-launch c =
    let is = c.pair-p.ensures in
    let raised = pair-ahead c.requires.0 is (omega (arith, c.requires.0.list.pairs_are)) c.raise_capture-raised.ensures in
    pair-asked raised is (omega (arith, c.requires.0.list.pairs_are)) c.asked-asks.ensures

pub raise_launch-raised-requires : goal.raise_launch-raised-requires
raise_launch-raised-requires c =
    pair-raisable c.requires.0 c.pair-p.ensures (omega (arith, c.requires.0.list.pairs_are))

pub returns : goal.returns
returns c =
    guided-start (pair-behind c.requires.0 c.pair-p.ensures (omega (arith, c.requires.0.list.pairs_are)) c.raise_launch-raised.ensures)
