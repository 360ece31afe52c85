-- `record_pair`: the flags of a pair, one to a row, from `at` on.
-- Invariant `Filling`: those of the first k rows are stored, behind what stands before `at`.
use mathlib.Core.Path.{refl}
use Prim.Native.Nat.{◌<◌, ◌+◌}
use native.Mathlib.Omega.{arith}
use lib.ListN.{length}
use lib.Seq.{length-take-le}
use Rattle.buffers.proofs.FillLaws.{filled-self, filling-start, filling-size, filling-turn, set-put}
use Rattle.propagate.proofs.StoreLaws.{pair-recorded}
use Rattle.propagate.proofs.record_pair.Goals as goal

pub loop-k-init : goal.loop-k-init
loop-k-init c =
    let a = c.args in
    filling-start (filled-self a.at a.flags.now (omega (arith, c.requires)))

pub loop-k-preserved : goal.loop-k-preserved
loop-k-preserved c =
    let a = c.args in
    let l = c.loop-k in
    let before = length-take-le a.at a.flags.now (omega (arith, c.requires)) in
    let inside : a.at + l.k < length l.flags = omega (arith, filling-size l.invariant, c.requires, c.loop-k-test.true) in
    filling-turn 1 (λ k. refl) (omega (arith, before, c.requires)) l.invariant c.loop-k-test.true (a.at + l.k) (omega (arith, before))
    (rw c.broken_flag.ensures (set-put l.flags (a.at + l.k) _ inside))

pub returns : goal.returns
returns c =
    let a = c.args in
    pair-recorded a.period a.offset a.pair a.at c.requires c.loop-k.invariant (omega arith)
