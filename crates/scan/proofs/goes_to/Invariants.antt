-- `goes_to`: the index of the byte with which reading stops.
-- Invariant `Going`: what is left after i bytes comes to the same.
use Rattle.scan.proofs.PlaceLaws.{Going}
use Rattle.scan.proofs.goes_to.Given as goal

abbrev pub invariant-loop-i : goal.invariant-loop-i
invariant-loop-i l = Going l.enough l.lined l.text l.state l.i
