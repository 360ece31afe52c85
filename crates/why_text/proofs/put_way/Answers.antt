-- `put_way`: from late to early, and from early to late.
use Rattle.why_text.specs.WhyText.{way_words}
use Rattle.why_text.proofs.put_way.Goals as goal

pub returns-then-late : goal.returns-then-late
unfolding way_words
returns-then-late c = rw c.if-late.true c.put_bytes.ensures

pub returns : goal.returns
unfolding way_words
returns c = rw c.if-late.false c.put_bytes-2.ensures
