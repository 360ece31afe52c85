-- `rounds`: no register is raised past times that meet the rules, and below what is told there is no schedule.
-- Invariant `Risen`: so it is from the times at the start to those now.
use native.Mathlib.Omega.{arith}
use Rattle.free_laws.proofs.Bound.{bound-low}
use Rattle.free_rounds.proofs.RoundLaws.{risen-then, round-risen}
use Rattle.free_trials.proofs.rounds.Goals as goal

pub returns-then-last-x : goal.returns-then-last-x
returns-then-last-x c =
    record {
      risen = risen-then c.loop-done.invariant (round-risen c.round-last.ensures);
      bound = bound-low (omega arith);
    }

pub returns-then-period-longer : goal.returns-then-period-longer
returns-then-period-longer c =
    record {
      risen = risen-then (risen-then c.loop-done.invariant (round-risen c.round-last.ensures)) c.carry-longer.ensures.risen;
      bound = c.carry-longer.ensures.bound;
    }

pub loop-done-preserved : goal.loop-done-preserved
loop-done-preserved c =
    risen-then (risen-then c.loop-done.invariant (round-risen c.round-last.ensures)) c.carry-longer.ensures.risen
