-- `plain`: what it tells is what a trial may tell.
-- Invariant `Trying`: x is what `done` rounds from all zero give.
use Rattle.free_trials.proofs.TrialLaws.{under-raises, under-any, trying-under, trying_start, trying-turn}
use Rattle.free_trials.proofs.plain.Goals as goal

pub loop-done-init : goal.loop-done-init
loop-done-init c = trying_start c.requires c.clear.ensures

pub round-last-requires : goal.round-last-requires
round-last-requires c =
    under-raises c.requires (trying-under c.loop-done.invariant)

pub loop-done-preserved : goal.loop-done-preserved
loop-done-preserved c =
    trying-turn c.requires c.loop-done.invariant c.round-last.ensures

pub returns-then-is_some-clause-sought : goal.returns-then-is_some-clause-sought
returns-then-is_some-clause-sought c =
    under-any c.requires (trying-under (trying-turn c.requires c.loop-done.invariant c.round-last.ensures)) c.judge-found.result c.judge-found.ensures
