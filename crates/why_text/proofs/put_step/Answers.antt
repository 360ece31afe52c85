-- `put_step`: the number of the pair, and then its choices.
use Rattle.text_pieces.proofs.PutLaws.{put_then}
use Rattle.why_text.proofs.StepLaws.{step-put}
use Rattle.why_text.proofs.put_step.Goals as goal

pub returns : goal.returns
returns c =
    step-put c.args.words.now c.args.period c.args.offset c.args.step c.requires.pair_in c.pair_at-pair.ensures
    c.launch_mark.ensures c.capture_mark.ensures
    (put_then c.put_short-a.ensures c.put_choices.ensures)
