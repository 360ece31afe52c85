-- `plain`: what it tells is what a trial may tell.
-- Invariant `Trying`: x is what `done` rounds from all zero give.
use Rattle.free_trials.specs.Trial.{Trying}
use Rattle.free_trials.proofs.plain.Given as goal

abbrev pub invariant-loop-done : goal.invariant-loop-done
invariant-loop-done l = Trying l.list.words.now l.period l.x l.done
