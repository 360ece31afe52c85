-- `step`: both ends of pair k raised, the capture first; where neither rose, the pair raises nothing further (`pair-stepped`).
use mathlib.Core.Path.{refl}
use native.Mathlib.Omega.{arith}
use Rattle.reach.proofs.SweepLaws.{pair-raisable, pair-stepped, raisable-kept}
use Rattle.reach.proofs.Listed.step.Goals as goal

pub raise_capture-first-requires : goal.raise_capture-first-requires
raise_capture-first-requires c =
    pair-raisable c.requires.0 c.pair-p.ensures (omega (arith, c.requires.0.list.pairs_are))

pub raise_launch-second-requires : goal.raise_launch-second-requires
raise_launch-second-requires c =
    raisable-kept (pair-raisable c.requires.0 c.pair-p.ensures (omega (arith, c.requires.0.list.pairs_are))) c.raise_capture-first.auto.reach

pub returns : goal.returns
returns c =
    pair-stepped c.requires.0 c.pair-p.ensures (omega (arith, c.requires.0.list.pairs_are)) c.raise_capture-first.ensures
    c.raise_launch-second.ensures refl
