-- `end_line`: the next line begins, unless this one has the wrong count of numbers or something was wrong before.
use mathlib.Core.Path.{◌∙◌, sym}
use Rattle.scan.proofs.CaseLaws.{line_stays, line-fails, line-next}
use Rattle.scan.proofs.State.end_line.Goals as goal

pub returns-then-is_some : goal.returns-then-is_some
returns-then-is_some c = line_stays _ (sym c.is_some.ensures ∙ c.if-is_some.true)

pub returns-in-Some : goal.returns-in-Some
returns-in-Some c = c.fail.ensures ∙ line-fails _ (sym c.is_some.ensures ∙ c.if-is_some.false) c.line_fault.ensures c.in-Some.is

pub returns : goal.returns
returns c =
    let s = c.args.self in
    rw c.needs_then.ensures (line-next s (sym c.is_some.ensures ∙ c.if-is_some.false) c.line_fault.ensures c.in_default.is)
