-- `put_block`: no line, or one for each register.
use mathlib.Core.Path.{sym, ◌∙◌}
use native.Mathlib.Omega.{arith}
use Rattle.list_text.proofs.LineLaws.{block_none, block-all}
use Rattle.list_text.proofs.put_block.Goals as goal

pub returns-then-none_needed : goal.returns-then-none_needed
returns-then-none_needed c = block_none _ _ (sym c.none_needed.ensures ∙ c.if-none_needed.true) (omega arith)

pub returns : goal.returns
returns c =
    block-all _ _ (sym c.none_needed.ensures ∙ c.if-none_needed.false) c.put_needs.ensures
