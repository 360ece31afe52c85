-- `settle`: no register is raised past times that meet the rules, and below what is told there is no schedule.
-- Invariant `Risen`: so it is from the times at the start to those now.
use native.Mathlib.Omega.{arith}
use Rattle.free_laws.proofs.Bound.{bound-low}
use Rattle.free_rounds.proofs.RoundLaws.{risen-then}
use Rattle.free_line.proofs.settle.Goals as goal

pub returns-then-is_over : goal.returns-then-is_over
returns-then-is_over c =
    record { risen = risen-then c.loop.invariant c.chase.ensures; bound = bound-low (omega arith) }

pub returns-then-period-longer : goal.returns-then-period-longer
returns-then-period-longer c =
    record {
      risen = risen-then (risen-then c.loop.invariant c.chase.ensures) c.carry-longer.ensures.risen;
      bound = c.carry-longer.ensures.bound;
    }

pub loop-preserved : goal.loop-preserved
loop-preserved c =
    risen-then (risen-then c.loop.invariant c.chase.ensures) c.carry-longer.ensures.risen
