-- `put_broken`: the pair's number, the rule that it breaks, and its registers make the line.
use Rattle.text_pieces.proofs.PutLaws.{put_then}
use Rattle.check_text.specs.CheckText.{broken_words, broken_line}
use Rattle.check_text.proofs.CheckTextLaws.{pair_put}
use Rattle.check_text.proofs.put_broken.Goals as goal

pub returns : goal.returns
unfolding broken_line
returns c =
    pair_put (broken_words c.args.k c.args.rule) c.pair_at-p.ensures
    (put_then c.put_named-a.ensures (put_then c.put_rule-b.ensures c.put_registers.ensures))
