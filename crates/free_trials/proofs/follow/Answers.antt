-- `follow`: what it tells is what a trial may tell.
use Rattle.free_rounds.proofs.RoundLaws.{risen-then}
use Rattle.free_trials.proofs.TrialLaws.{zeros-raise, zeros-risen, trial-limit, under-risen, under-any}
use Rattle.free_trials.proofs.follow.Goals as goal

pub carry-longer-requires : goal.carry-longer-requires
carry-longer-requires c =
    zeros-raise c.requires.list (trial-limit c.requires) c.clear.ensures

pub returns : goal.returns
returns c =
    let risen = risen-then (zeros-risen c.requires.list (trial-limit c.requires) c.clear.ensures) c.carry-longer.ensures.risen in
    under-any c.requires (under-risen c.requires risen) c.told.result c.told.ensures
