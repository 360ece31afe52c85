-- `along`: one step back along setup or hold, its numbers added to the sums, or none. One law for each way.
use Rattle.free_cycles.proofs.TrailLaws.{back-setup, back-hold}
use Rattle.free_cycles.proofs.along.Goals as goal

pub returns-then-rule-eq0 : goal.returns-then-rule-eq0
returns-then-rule-eq0 c =
    back-setup c.args.list.usable c.requires.traced c.requires.steps_lt_n c.pair-p.ensures c.if-k-list.false c.if-p-w.false

pub returns : goal.returns
returns c =
    back-hold c.args.list.usable c.requires.traced c.requires.steps_lt_n c.pair-p.ensures c.if-k-list.false c.if-p-w-2.false
