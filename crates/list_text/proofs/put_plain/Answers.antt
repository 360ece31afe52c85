-- `put_plain`: too many registers, and any others with two zeros for each.
use native.Mathlib.Omega.{arith}
use Rattle.list_text.proofs.ListTextLaws.{plain-many, plain-some}
use Rattle.list_text.proofs.put_plain.Goals as goal

pub returns-then-n-gt-MAX_REGISTERS : goal.returns-then-n-gt-MAX_REGISTERS
returns-then-n-gt-MAX_REGISTERS c = plain-many _ _ _ _ c.if-n-gt-MAX_REGISTERS.true c.put_made.ensures

pub returns : goal.returns
returns c = plain-some _ _ _ 1024 (omega arith) c.put_made-2.ensures
