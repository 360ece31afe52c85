-- `propagate`: true where no pair forces more, false where no split that works agrees with the marks.
-- Invariant `Carried`: each split that works and agreed at the start still agrees.
-- What falls: the registers without a mark, for a pass that changes something sets one.
use Rattle.propagate.proofs.PassLaws.{carried-turn, carried-clash, carried-settled}
use Rattle.propagate.proofs.propagate.Goals as goal

pub returns-in-Settled : goal.returns-in-Settled
returns-in-Settled c =
    let a = c.args in
    carried-settled a.list.words.now a.list.registers c.loop-down.invariant c.sweep.ensures c.in-Settled.is

pub returns-in-Clash : goal.returns-in-Clash
returns-in-Clash c =
    let a = c.args in
    carried-clash a.list.words.now a.list.registers c.loop-down.invariant c.sweep.ensures c.in-Clash.is

pub loop-down-preserved : goal.loop-down-preserved
loop-down-preserved c =
    let a = c.args in
    carried-turn a.list.words.now a.list.registers c.loop-down.invariant c.sweep.ensures
