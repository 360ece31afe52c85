-- `read_bytes`: the state after all bytes, with the numbers that they end in the first places.
-- Invariant `Scanning`: the same for the first i bytes.
use Rattle.scan.proofs.ScanLaws.{Scanning}
use Rattle.scan.proofs.read_bytes.Given as goal

abbrev pub invariant-loop-byte : goal.invariant-loop-byte
invariant-loop-byte l = Scanning l.lined l.bytes l.initial.numbers l.numbers l.state l.byte-index
