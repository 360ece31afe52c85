-- `put_rule`: the words for hold, where setup is met, and those for setup.
use native.Mathlib.Omega.{arith}
use Rattle.text_pieces.proofs.PutLaws.{put-within}
use Rattle.why_text.specs.WhyText.{rule_words}
use Rattle.why_text.proofs.put_rule.Goals as goal

pub returns-then-met : goal.returns-then-met
unfolding rule_words
returns-then-met c = rw c.if-met.true (put-within c.put_bytes.ensures (omega arith))

pub returns : goal.returns
unfolding rule_words
returns c = rw c.if-met.false c.put_bytes-2.ensures
