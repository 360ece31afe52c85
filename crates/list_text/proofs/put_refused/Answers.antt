-- `put_refused`: a refusal of the whole without a line of the text, any other with it.
use Rattle.list_text.proofs.LineLaws.{refused-whole, refused-line}
use Rattle.list_text.proofs.put_refused.Goals as goal

pub returns-in-None : goal.returns-in-None
returns-in-None c = refused-whole _ _ _ _ c.last_of.ensures c.in-None.is c.tell_refusal.ensures

pub returns-in-Some : goal.returns-in-Some
returns-in-Some c = refused-line _ _ _ _ c.last_of.ensures c.in-Some.is c.line_of.ensures c.tell_refusal_in.ensures
