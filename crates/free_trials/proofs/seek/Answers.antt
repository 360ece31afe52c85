-- `seek`: from all zero no register is raised past times that meet the rules, and below what is told there is no schedule.
use Rattle.list_format.proofs.ListLaws.{still-usable}
use Rattle.free_rounds.proofs.RoundLaws.{risen-then}
use Rattle.free_trials.proofs.TrialLaws.{zeros-risen}
use Rattle.free_trials.proofs.seek.Goals as goal

pub returns-then-period-longer : goal.returns-then-period-longer
returns-then-period-longer c =
    record {
      risen = risen-then
          (risen-then (zeros-risen (still-usable c.requires.0 c.args.list.usable) c.requires.1 c.clear.ensures) c.resume-first.ensures.risen)
          c.rounds-longer.ensures.risen;
      bound = c.rounds-longer.ensures.bound;
    }

pub returns : goal.returns
returns c =
    let first = risen-then (zeros-risen (still-usable c.requires.0 c.args.list.usable) c.requires.1 c.clear.ensures) c.resume-first.ensures.risen in
    record {
      risen = risen-then (risen-then first c.rounds-longer.ensures.risen) c.settle.ensures.risen;
      bound = c.settle.ensures.bound;
    }
