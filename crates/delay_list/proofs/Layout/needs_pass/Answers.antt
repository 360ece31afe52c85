-- `needs_pass`: whether the checks of all words of needs pass.
-- Invariant: where `pass` still holds, those of the first r registers do.
use Rattle.std.proofs.Common.{arith}
use Rattle.refusals.proofs.CheckLaws.{all_of}
use Rattle.delay_list.proofs.Layout.needs_pass.Goals as goal

pub returns : goal.returns
returns c = λ e. all_of _ _ (λ i h. c.loop-r.invariant.1 e i (omega arith))
