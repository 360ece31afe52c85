-- `walked_on`: the walk as it was, or with the pair whose margin is smaller. The machine's reading of a margin is that margin (`as_read`).
use Rattle.timing.proofs.MarginLaws.{as_read}
use Rattle.checker.proofs.MarginLaws.{walk_kept, walk-lower, walk_first}
use Rattle.checker.proofs.walked_on.Goals as goal

pub returns-then-x-walk : goal.returns-then-x-walk
returns-then-x-walk c =
    let a = c.args in
    let x = as_read a.x.margin c.struct_told-2-1.given.0.1 in
    let so_far = as_read a.walk.smallest.margin c.struct_told-1.given.0.1.1.0.1 in
    walk_kept a.walk a.x (rw (x, so_far) at c.if-x-walk.true)

pub returns-then-walk-lt0 : goal.returns-then-walk-lt0
returns-then-walk-lt0 c =
    let a = c.args in
    let x = as_read a.x.margin c.struct_told-2-1.given.0.1 in
    let so_far = as_read a.walk.smallest.margin c.struct_told-1.given.0.1.1.0.1 in
    walk-lower a.walk a.x (rw (x, so_far) at c.if-x-walk.false) (rw so_far at c.if-walk-lt0.true)

pub returns : goal.returns
returns c =
    let a = c.args in
    let x = as_read a.x.margin c.struct_told-2-1.given.0.1 in
    let so_far = as_read a.walk.smallest.margin c.struct_told-1.given.0.1.1.0.1 in
    walk_first a.walk a.x (rw (x, so_far) at c.if-x-walk.false) (rw so_far at c.if-walk-lt0.false)
