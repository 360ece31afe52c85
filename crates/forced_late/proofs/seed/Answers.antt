-- `seed`: the roots, pair by pair. Invariant `Seeding`: those of the first k pairs.
use native.Mathlib.Omega.{arith}
use Rattle.forced_late.proofs.GrowLaws.{seed-turn}
use Rattle.forced_late.proofs.seed.Goals as goal

pub loop-k-preserved : goal.loop-k-preserved
loop-k-preserved c =
    let list = c.requires.lent.list in
    seed-turn c.args.list.words.now c.args.list.registers c.loop-k.k list (omega (arith, list.pairs_are)) c.loop-k.invariant c.seed_pair.ensures
