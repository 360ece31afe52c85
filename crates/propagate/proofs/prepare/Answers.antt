-- `prepare`: blank marks, and the flags of all pairs in the part lent from place 6n on; what lies behind stays (`prepared`).
use Rattle.propagate.proofs.DecideLaws.{prepared}
use Rattle.propagate.proofs.prepare.Goals as goal

pub returns : goal.returns
returns c =
    let a = c.args in
    prepared a.period a.offset a.list.words.now a.list.registers a.scratch.now c.requires c.clear.ensures
    (rw c.requires.list.pairs_are at c.record_broken.ensures)
