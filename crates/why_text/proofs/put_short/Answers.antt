-- `put_short`: a name and its number, in fewer bytes than any number may take.
use Rattle.why_text.proofs.StepLaws.{put-short}
use Rattle.why_text.proofs.put_short.Goals as goal

pub returns : goal.returns
returns c =
    put-short c.args.name.now c.args.n c.args.end c.requires.n_bound c.put_named.ensures
