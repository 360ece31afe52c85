-- `put_choice`: the words for late and those for early.
use native.Mathlib.Omega.{arith}
use borrow.Author.Tests.{eq-eqb, ne_eqb}
use Rattle.text_pieces.proofs.PutLaws.{put-within}
use Rattle.why_text.specs.WhyText.{choice_words}
use Rattle.why_text.proofs.put_choice.Goals as goal

pub returns-then-mark-eq-LATE : goal.returns-then-mark-eq-LATE
unfolding choice_words
returns-then-mark-eq-LATE c =
    rw (eq-eqb c.args.mark 2 c.if-mark-eq-LATE.true) (put-within c.put_bytes.ensures (omega arith))

pub returns : goal.returns
unfolding choice_words
returns c =
    rw (ne_eqb c.args.mark 2 c.if-mark-eq-LATE.false) c.put_bytes-2.ensures
