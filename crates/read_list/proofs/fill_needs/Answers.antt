-- `fill_needs`: hold and setup of all registers, two places each, from `at` on.
-- Invariant `Filling`: those of the first r registers stand there.
use Prim.Native.Nat.{◌+◌, ◌*◌}
use mathlib.Core.Path.{◌≡◌, refl}
use native.Mathlib.Omega.{arith}
use lib.ListN.{length, take}
use lib.Seq.{length-take-le}
use Rattle.buffers.proofs.FillLaws.{filled-self, filling-start, filling-turn}
use Rattle.read_list.proofs.fill_needs.Goals as goal

pub loop-r-init : goal.loop-r-init
loop-r-init c = filling-start (filled-self c.args.at _ (omega arith))

pub loop-r-preserved : goal.loop-r-preserved
loop-r-preserved c =
    let at = c.loop-r in
    let size : length (take c.args.at c.args.answer.now) ≡ c.args.at = length-take-le c.args.at c.args.answer.now (omega arith) in
    filling-turn 2 (λ r. refl) (omega (arith, size)) at.invariant (omega arith) (c.args.at + 2 * at.r) (omega (arith, size))
    (rw (c.setup-setup.ensures, c.hold-hold.ensures, c.of-layout.ensures) at c.put_needs.ensures)
