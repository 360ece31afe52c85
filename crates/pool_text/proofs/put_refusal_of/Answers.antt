-- `put_refusal_of`: a refusal of neither list is told without a list.
use borrow.Author.Tests.{eq-eqb, ne_eqb}
use Rattle.pool_text.specs.PoolText.{refusal_line_of}
use Rattle.pool_text.proofs.put_refusal_of.Goals as goal

pub returns-then-list-eq0 : goal.returns-then-list-eq0
unfolding refusal_line_of
returns-then-list-eq0 c = rw (eq-eqb c.args.list 0 c.if-list-eq0.true) c.put_refusal_of_neither.ensures

pub returns : goal.returns
unfolding refusal_line_of
returns c = rw (ne_eqb c.args.list 0 c.if-list-eq0.false) c.put_refusal_of_one.ensures
