-- One for each register if the second word is one of needs, and else none.
use Rattle.std.proofs.Common.{sym, ◌∙◌, arith}
use Rattle.list_format.specs.Lists.{need_words_by}
use Rattle.delay_list.proofs.need_words.Goals as goal

pub returns-then-is_of : goal.returns-then-is_of
unfolding need_words_by
returns-then-is_of c = (rw (sym c.is_of.ensures ∙ c.if-is_of.true) c.head_registers.ensures, omega (arith, c.head_registers.ensures))

pub returns : goal.returns
unfolding need_words_by
returns c = (rw (sym c.is_of.ensures ∙ c.if-is_of.false), omega arith)
