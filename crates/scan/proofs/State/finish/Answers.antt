-- `finish`: the end of the text ends its last number and its last line; what is wrong then is `end_fault`.
use mathlib.Core.Path.{◌∙◌, sym}
use Rattle.scan.proofs.CaseLaws.{finish-stays, finish-faulty, finish-ends}
use Rattle.scan.proofs.StateLaws.{ended-in, both-in}
use Rattle.scan.proofs.State.finish.Goals as goal

pub returns-then-is_some : goal.returns-then-is_some
returns-then-is_some c = finish-stays _ (sym c.is_some.ensures ∙ c.if-is_some.true)

pub end_line-last-requires : goal.end_line-last-requires
end_line-last-requires c = rw c.close.ensures (ended-in _ c.requires)

pub returns-then-is_some-2 : goal.returns-then-is_some-2
returns-then-is_some-2 c =
    finish-faulty _ (sym c.is_some.ensures ∙ c.if-is_some.false) (rw c.close.ensures at c.end_line-last.ensures)
    (sym c.is_some-2.ensures ∙ c.if-is_some-2.true)

pub end_fault-requires : goal.end_fault-requires
end_fault-requires c =
    rw (c.end_line-last.ensures, c.close.ensures) (both-in _ c.requires)

pub returns : goal.returns
returns c =
    finish-ends _ (sym c.is_some.ensures ∙ c.if-is_some.false) (rw c.close.ensures at c.end_line-last.ensures)
    (sym c.is_some-2.ensures ∙ c.if-is_some-2.false) c.end_fault.ensures
