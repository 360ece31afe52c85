-- `place_of`: the place of a byte, by the bytes before it.
-- Invariant `Placing`: the place of byte i.
use Rattle.scan.proofs.PlaceLaws.{Placing}
use Rattle.scan.proofs.place_of.Given as goal

abbrev pub invariant-loop-i : goal.invariant-loop-i
invariant-loop-i l = Placing l.text l.at l.place l.i
