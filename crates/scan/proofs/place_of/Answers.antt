-- `place_of`: the place of a byte, by the bytes before it.
-- Invariant `Placing`: the place of byte i.
use native.Mathlib.Omega.{arith}
use Rattle.scan.proofs.PlaceLaws.{placing-start, placing-turn}
use Rattle.scan.proofs.place_of.Goals as goal

pub loop-i-init : goal.loop-i-init
loop-i-init c = placing-start

pub loop-i-preserved : goal.loop-i-preserved
loop-i-preserved c = placing-turn c.loop-i.invariant (omega arith) (omega arith) c.next_place-place.ensures
