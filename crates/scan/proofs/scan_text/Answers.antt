-- `scan_text`: a text with a fault, and one of which all numbers are stored. One law for each.
use native.Mathlib.Omega.{arith}
use Rattle.scan.proofs.ScanLaws.{text-faulty, text-numbers}
use Rattle.scan.proofs.scan_text.Goals as goal

pub returns-in-Some : goal.returns-in-Some
returns-in-Some c =
    let told = c.turn_end-last.ensures in
    text-faulty c.requires.1 c.read_bytes-walked.ensures told.0 told.1 c.in-Some.is c.goes_to-at.ensures.index c.fault_at.ensures

pub returns : goal.returns
returns c =
    let told = c.turn_end-last.ensures in
    text-numbers (omega arith) c.read_bytes-walked.ensures told.0 told.1 c.in_default.is
