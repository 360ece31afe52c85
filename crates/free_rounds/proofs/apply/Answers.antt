-- `apply`: one rule of the list obeyed (`risen-setup`, `risen-hold`), or the times left as they were.
use Rattle.free_rounds.proofs.RoundLaws.{risen-start, risen-setup, risen-hold}
use Rattle.free_rounds.proofs.apply.Goals as goal

pub returns-then-rule-eq0 : goal.returns-then-rule-eq0
returns-then-rule-eq0 c =
    risen-setup c.requires c.if-k-list.false (risen-start c.requires) c.pair-p.ensures c.raise.ensures

pub returns : goal.returns
returns c =
    risen-hold c.requires c.if-k-list.false (risen-start c.requires) c.pair-p.ensures c.raise-2.ensures
