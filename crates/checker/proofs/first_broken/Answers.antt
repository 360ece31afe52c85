-- `first_broken`: the first pair that breaks a rule, or the count of pairs.
-- Invariant `Looked`: the pairs before k meet both rules.
use mathlib.Core.Path.{◌≡◌, sym, ◌∙◌}
use native.Mathlib.Omega.{arith}
use Rattle.checker.proofs.CheckLaws.{looked-end}
use Rattle.checker.proofs.first_broken.Goals as goal

pub returns-then-not-meets : goal.returns-then-not-meets
returns-then-not-meets c = looked-end c.loop-k.invariant (λ h. sym c.meets.ensures ∙ c.if-not-meets.true)

pub returns : goal.returns
returns c =
    let e : c.loop-k.k ≡ c.args.list.pairs = omega arith in
    rw e at (looked-end c.loop-k.invariant (λ h. absurd (omega (arith, c.args.list.usable.pairs_are))))
