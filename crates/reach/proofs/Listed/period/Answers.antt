-- `period`: the longest period that a pair asks for, or 1.
-- Invariant `Asked`: that of the first k pairs, with the pairs from k on, gives the period.
use native.Mathlib.Omega.{arith}
use Rattle.reach.proofs.SweepLaws.{asked-start, asked-turn, asked-end}
use borrow.Author.Rules.{rules}
use Rattle.reach.proofs.Listed.period.Goals as goal

pub loop-k-init : goal.loop-k-init
loop-k-init c = asked-start

pub loop-k-preserved : goal.loop-k-preserved
loop-k-preserved c =
    asked-turn c.loop-k.invariant (omega (arith, c.args.self.list.usable.pairs_are)) c.pair-p.ensures
    c.asked.ensures (search rules)

pub returns : goal.returns
returns c = asked-end c.loop-k.invariant (omega (arith, c.args.self.list.usable.pairs_are))
