-- `put_of`: the words for setup and those for hold.
use native.Mathlib.Omega.{arith}
use Rattle.text_pieces.proofs.PutLaws.{put_as}
use Rattle.check_text.specs.CheckText.{of_width, of_words}
use Rattle.check_text.proofs.put_of.Goals as goal

pub returns-in-Setup : goal.returns-in-Setup
unfolding of_words
returns-in-Setup c = put_as of_words of_width c.in-Setup.is c.put_bytes.ensures (omega arith)

pub returns-in-Hold : goal.returns-in-Hold
unfolding of_words
returns-in-Hold c = put_as of_words of_width c.in-Hold.is c.put_bytes-in-Hold.ensures (omega arith)
