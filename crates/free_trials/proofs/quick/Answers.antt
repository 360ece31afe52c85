-- `quick`: what it tells is what a trial may tell.
use native.Mathlib.Omega.{arith}
use Rattle.free_trials.proofs.TrialLaws.{trial-limit, under-risen, under-any}
use Rattle.free_trials.proofs.quick.Goals as goal

pub seek-longer-requires : goal.seek-longer-requires
seek-longer-requires c =
    (omega (arith, c.requires.list.registers_are, c.args.list.usable.registers_are), trial-limit c.requires)

pub returns : goal.returns
returns c = under-any c.requires (under-risen c.requires c.seek-longer.ensures.risen) c.told.result c.told.ensures
