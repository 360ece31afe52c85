-- `steady`: the period with its least schedule, or a longer one, below which there is no schedule.
use mathlib.Core.Path.{sym, ◌∙◌}
use native.Mathlib.Omega.{arith}
use Rattle.free_trials.proofs.TrialLaws.{trial-limit, trying-passed, trying-failed}
use Rattle.free_trials.proofs.steady.Goals as goal

pub overflow_add-result : goal.overflow_add-result
overflow_add-result c = omega (arith, trial-limit c.requires)

pub returns-then-passes : goal.returns-then-passes
returns-then-passes c =
    trying-passed c.requires c.in_default.ensures.trying (omega (arith, c.plain.auto.x))
    (sym c.passes.ensures ∙ c.if-passes.true)

pub returns : goal.returns
returns c =
    trying-failed c.requires c.in_default.ensures.trying (omega (arith, c.plain.auto.x))
    (sym c.passes.ensures ∙ c.if-passes.false)
