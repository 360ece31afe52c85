-- Its word of needs, where there is one.
use Rattle.std.proofs.Common.{sym, ◌∙◌, arith}
use Rattle.list_format.proofs.NeedsLaws.{setup-at, setup-none}
use Rattle.delay_list.proofs.Layout.setup.Goals as goal

pub returns-then-r-self : goal.returns-then-r-self
returns-then-r-self c =
    c.setup.ensures ∙ sym (setup-at c.args.self.words.now (omega arith))

pub returns : goal.returns
returns c = sym (setup-none c.args.self.words.now (omega arith))
