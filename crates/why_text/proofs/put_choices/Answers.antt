-- `put_choices`: the launch, the capture, and the rule, by whether setup is met.
use Rattle.text_pieces.proofs.PutLaws.{put_then}
use Rattle.why_text.proofs.put_choices.Goals as goal

pub returns : goal.returns
returns c =
    let rule = rw c.setup_met.ensures at c.put_rule.ensures in
    put_then c.put_end-a.ensures (put_then c.put_end-b.ensures rule)
