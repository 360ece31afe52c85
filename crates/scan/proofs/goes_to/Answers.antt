-- `goes_to`: the index of the byte with which reading stops.
-- Invariant `Going`: what is left after i bytes comes to the same.
use mathlib.Core.Path.{◌∙◌, sym}
use native.Mathlib.Omega.{arith}
use Rattle.scan.proofs.PlaceLaws.{going-stop, going-turn, going_end}
use Rattle.scan.proofs.goes_to.Goals as goal

pub returns-then-stops : goal.returns-then-stops
returns-then-stops c =
    going-stop c.loop-i.invariant (omega arith) c.step-state.ensures (sym c.stops.ensures ∙ c.if-stops.true)

pub loop-i-preserved : goal.loop-i-preserved
loop-i-preserved c =
    going-turn c.loop-i.invariant (omega arith) c.step-state.ensures (sym c.stops.ensures ∙ c.if-stops.false)

pub returns : goal.returns
returns c = going_end c.loop-i.invariant c.loop-i-test.false
