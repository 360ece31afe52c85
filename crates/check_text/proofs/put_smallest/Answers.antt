-- `put_smallest`: the margin and its rule, and the pair with its registers make the line.
use Rattle.timing.proofs.MarginLaws.{as_read}
use Rattle.text_pieces.proofs.PutLaws.{put_then}
use Rattle.check_text.specs.CheckText.{pair_words, margin_line}
use Rattle.check_text.proofs.CheckTextLaws.{pair_put}
use Rattle.check_text.proofs.put_smallest.Goals as goal

pub returns : goal.returns
unfolding margin_line
returns c =
    put_then (rw (as_read c.args.x.margin c.struct_told-1.given.0.1) at c.put_margin-next.ensures)
    (pair_put (pair_words c.args.x.pair) c.pair_at-p.ensures c.put_pair.ensures)
