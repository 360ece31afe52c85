-- `sweep`: both ways along every pair. Invariant: the first k force nothing more, where nothing was marked.
use mathlib.Core.Path.{refl}
use Rattle.forced_late.proofs.GrowLaws.{sweep-turn}
use Rattle.forced_late.proofs.sweep.Goals as goal

pub loop-k-preserved : goal.loop-k-preserved
loop-k-preserved c = sweep-turn c.args.list.words.now c.args.list.registers c.loop-k.k refl c.loop-k.invariant c.step-marked.ensures
