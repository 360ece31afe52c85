-- `put_path`: a path, up or down. Invariant `Filling`.
use mathlib.Core.Path.{ap}
use Prim.Native.Nat.{ℕ}
use native.Mathlib.Omega.{arith}
use lib.ListN.{get_or, length}
use Rattle.blocking.proofs.StoreLaws.{part-start, part-turn}
use Rattle.blocking.proofs.put_path.Goals as goal

pub loop-i-init : goal.loop-i-init
loop-i-init c = part-start _ (length c.args.path.now) c.args.at c.args.answer.now c.requires

pub loop-i-preserved : goal.loop-i-preserved
loop-i-preserved c =
    part-turn _ (length c.args.path.now) c.args.at c.args.answer.now c.requires c.loop-i.invariant (omega arith)
    (ap (λ (j : ℕ). get_or c.args.path.now j 0) c.place.ensures.0)
