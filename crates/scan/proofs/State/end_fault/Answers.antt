-- `end_fault`: whether the text may end here: a number, and as many pairs as the first line says.
use Rattle.scan.proofs.CaseLaws.{end_none, end-silent, end_kept, end-broken}
use Rattle.scan.proofs.State.end_fault.Goals as goal

pub returns-then-self-eq0 : goal.returns-then-self-eq0
returns-then-self-eq0 c = end_none _ c.if-self-eq0.true

pub returns-then-self-eq0-2 : goal.returns-then-self-eq0-2
returns-then-self-eq0-2 c = end-silent _ c.if-self-eq0.false c.if-self-eq0-2.true

pub returns-then-self : goal.returns-then-self
returns-then-self c =
    end_kept _ c.if-self-eq0.false c.if-self-eq0-2.false c.if-self.true

pub returns : goal.returns
returns c =
    end-broken _ c.if-self-eq0.false c.if-self-eq0-2.false c.if-self.false
