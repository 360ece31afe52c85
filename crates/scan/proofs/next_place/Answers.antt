-- `next_place`: a newline begins the next line, any other byte takes a column.
use borrow.Author.Tests.{eq-eqb, ne_eqb}
use Rattle.scan.specs.Scan.{next_place}
use Rattle.scan.proofs.next_place.Goals as goal

pub returns-then-byte-eq10 : goal.returns-then-byte-eq10
unfolding next_place
returns-then-byte-eq10 c = rw (eq-eqb _ _ c.if-byte-eq10.true)

pub returns : goal.returns
unfolding next_place
returns c = rw (ne_eqb _ _ c.if-byte-eq10.false)
