-- `put_numbers`: without needs, and with them.
use mathlib.Core.Path.{refl}
use Rattle.list_text.proofs.ListTextLaws.{with_none, with-some}
use Rattle.list_text.proofs.put_numbers.Goals as goal

pub returns-then-needs-eq0 : goal.returns-then-needs-eq0
returns-then-needs-eq0 c =
    with_none c.args.text.now c.args.needs c.args.numbers.now c.if-needs-eq0.true c.put_plain.ensures

pub returns : goal.returns
returns c =
    with-some c.args.text.now c.args.needs c.args.numbers.now c.if-needs-eq0.false refl c.put_made.ensures
