-- `put_list`: the head and the words of needs, the pairs, and then the end word, are the whole list (`opened-is`, `closed_is`).
use Prim.Native.Nat.{◌+◌}
use mathlib.Core.Path.{ap}
use native.Mathlib.Omega.{arith}
use Rattle.list_format.proofs.WriteBack.{few-needs, needs-fit, given-fits}
use Rattle.list_format.proofs.WriteLaws.{opened-is, closed_is}
use Rattle.write_list.proofs.Given.put.Goals as goal

pub put_head-requires : goal.put_head-requires
put_head-requires c =
    let g = c.requires.0 in
    let few = few-needs c.args.self.registers c.args.self.needs.now in (
      (omega (arith, g.most), omega (arith, g.few)),
      (rw c.args.self.counted (needs-fit c.args.self.registers c.args.self.numbers.now c.args.self.needs.now g), (omega (arith, g.two, few), omega arith)),
    )

pub put_pairs-requires : goal.put_pairs-requires
put_pairs-requires c =
    let g = c.requires.0 in
    let few = few-needs c.args.self.registers c.args.self.needs.now in
    let kept = c.put_head.auto.answer in (
      given-fits c.args.self.registers c.args.self.numbers.now c.args.self.needs.now g,
      ((omega (arith, g.most, few), omega (arith, g.few)), (omega (arith, g.size), omega (arith, kept))),
    )

pub pair_place-at-requires : goal.pair_place-at-requires
pair_place-at-requires c =
    let g = c.requires.0 in
    omega (arith, g.most, g.few, few-needs c.args.self.registers c.args.self.needs.now)

pub returns : goal.returns
returns c =
    let a = c.args in
    let g = c.requires.0 in
    let place = rw c.args.self.counted at c.pair_place-at.ensures in
    let opened = opened-is a.self.registers a.self.numbers.now a.self.needs.now a.answer.now g c.args.self.counted (omega arith) _ _ c.put_head.ensures
    c.put_pairs.ensures in
    let end = rw place at c.put_end.ensures in
    (ap (λ k. k + 1) place, closed_is a.self.registers a.self.numbers.now a.self.needs.now a.answer.now g c.requires.1 _ _ opened end)
