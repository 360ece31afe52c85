-- `force_late`: the roots, the walk, then sweeps until nothing is marked (`forced`).
use Rattle.forced_late.proofs.GrowLaws.{forced}
use Rattle.forced_late.proofs.force_late.Goals as goal

pub returns : goal.returns
returns c =
    forced c.args.list.words.now c.args.list.registers c.requires c.seed.ensures c.walk_list.ensures c.settle.ensures
