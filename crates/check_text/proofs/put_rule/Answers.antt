-- `put_rule`: the words for setup and those for hold.
use native.Mathlib.Omega.{arith}
use Rattle.text_pieces.proofs.PutLaws.{put_as}
use Rattle.check_text.specs.CheckText.{rule_width, rule_words}
use Rattle.check_text.proofs.put_rule.Goals as goal

pub returns-in-Setup : goal.returns-in-Setup
unfolding rule_words
returns-in-Setup c = put_as rule_words rule_width c.in-Setup.is c.put_bytes.ensures (omega arith)

pub returns-in-Hold : goal.returns-in-Hold
unfolding rule_words
returns-in-Hold c = put_as rule_words rule_width c.in-Hold.is c.put_bytes-in-Hold.ensures (omega arith)
