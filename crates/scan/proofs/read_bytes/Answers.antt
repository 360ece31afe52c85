-- `read_bytes`: the state after all bytes, with the numbers that they end in the first places.
-- Invariant `Scanning`: the same for the first i bytes.
use native.Mathlib.Omega.{arith}
use Rattle.scan.proofs.ScanLaws.{scanning-start, scanning-turn}
use Rattle.scan.proofs.read_bytes.Goals as goal

pub loop-byte-init : goal.loop-byte-init
loop-byte-init c = scanning-start c.begin-state.ensures

pub loop-byte-preserved : goal.loop-byte-preserved
loop-byte-preserved c =
    let told = c.turn-state.ensures in
    scanning-turn c.loop-byte.invariant (omega arith) (omega arith) told.0 told.1
