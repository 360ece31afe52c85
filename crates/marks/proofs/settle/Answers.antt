-- `settle`: all that one pair's broken choices force. Invariant `Settling`: what the first k rows force is followed.
-- After them the capture is forced late where early, early is broken.
use mathlib.Core.Path.{◌≡◌, ◌∙◌}
use native.Mathlib.Omega.{arith}
use Rattle.split_laws.proofs.MarkLaws.{max-joined}
use Rattle.split_laws.proofs.ClosureLaws.{settling-turn, settling-end}
use borrow.Author.Rules.{rules}
use Rattle.marks.proofs.settle.Goals as goal

pub loop-k-preserved : goal.loop-k-preserved
loop-k-preserved c =
    let a = c.args in (
      search rules,
      settling-turn a.pair a.flags (search rules) (c.max-all.ensures ∙ max-joined c.loop-k.all c.apply-o.result) c.loop-k.invariant.1 c.apply-o.ensures,
    )

pub returns : goal.returns
returns c =
    let a = c.args in
    let e : c.loop-k.k ≡ 4 = omega arith in
    settling-end a.pair a.flags (c.max.ensures ∙ max-joined c.loop-k.all c.seed-last.result) (rw e at c.loop-k.invariant.1) c.seed-last.ensures
