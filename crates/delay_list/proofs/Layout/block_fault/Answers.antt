-- Where all words of needs pass, 18 decides.
use Rattle.std.proofs.Common.{sym, ◌∙◌}
use Rattle.refusals.proofs.CheckLaws.{pass-first}
use Rattle.delay_list.proofs.Layout.block_fault.Goals as goal

pub returns-then-needs_pass : goal.returns-then-needs_pass
returns-then-needs_pass c = c.zero_fault.ensures ∙ sym (pass-first _ _ (c.needs_pass.ensures c.if-needs_pass.true))
