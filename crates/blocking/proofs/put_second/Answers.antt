-- `put_second`: the path down and one step, then, if this does not come to the root, one step and the path up (`second-one`, `second-two`).
use mathlib.Core.Bool.{true, false}
use lib.ListN.{length}
use native.Mathlib.Omega.{arith}
use Rattle.blocking.specs.Paths.{path_in}
use Rattle.blocking.proofs.ChainsLaws.{path-size}
use Rattle.blocking.proofs.StoreLaws.{second-one, second-two}
use Rattle.blocking.proofs.put_second.Goals as goal

pub returns-then-p-b : goal.returns-then-p-b
returns-then-p-b c =
    let a = c.args in
    let path = a.path.now in
    let r = second-one a.list.words.now a.k a.b (path_in true path) (path_in false path) (length path) a.at a.answer.now (path-size _ (length path))
    (path-size _ (length path)) (omega (arith, c.requires.2)) c.put_path.ensures (rw c.step.ensures at c.put_step.ensures)
    (rw c.pair-p.ensures.same at c.if-p-b.true) in
    record { size = r.0; stored = r.1 }

pub returns : goal.returns
returns c =
    let a = c.args in
    let path = a.path.now in
    let r = second-two a.list.words.now a.k a.b (path_in true path) (path_in false path) (length path) a.at a.answer.now (path-size _ (length path))
    (path-size _ (length path)) (omega (arith, c.requires.2)) c.put_path.ensures (rw c.step.ensures at c.put_step.ensures)
    (rw c.step-2.ensures at c.put_step-2.ensures) c.put_path-2.ensures (λ q. c.if-p-b.false (rw c.pair-p.ensures.same q)) in
    record { size = r.0; stored = r.1 }
