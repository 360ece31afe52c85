-- `decide`: true with the marks of the first split, false where no split works: blank marks, the flags, then the passes (`decided`).
use Rattle.propagate.proofs.DecideLaws.{decided}
use Rattle.propagate.proofs.decide.Goals as goal

pub returns : goal.returns
returns c =
    let a = c.args in
    decided a.period a.offset a.list.words.now a.list.registers a.scratch.now _ c.requires c.prepare.ensures c.propagate.ensures
