-- Its word of needs, where there is one.
use Rattle.std.proofs.Common.{sym, ◌∙◌, arith}
use Rattle.list_format.proofs.NeedsLaws.{hold_at_lem, hold-none}
use Rattle.delay_list.proofs.Layout.hold.Goals as goal

pub returns-then-r-self : goal.returns-then-r-self
returns-then-r-self c =
    c.hold.ensures ∙ sym (hold_at_lem c.args.self.words.now (omega arith))

pub returns : goal.returns
returns c = sym (hold-none c.args.self.words.now (omega arith))
