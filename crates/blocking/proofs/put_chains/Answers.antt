-- `put_chains`: the path to the root, then both chains (`chains-in`).
use mathlib.Core.Path.{◌≡◌, refl}
use Prim.Native.Nat.{ℕ, ◌+◌, ◌-◌, ◌*◌}
use native.Mathlib.Omega.{arith}
use lib.ListN.{get_or}
use Rattle.list_format.specs.Lists.{pair_at}
use Rattle.blocking.proofs.PutLaws.{root-few, root-reads, first-asks, first_short, steps-inside, second-asks, chains-in}
use borrow.Author.Rules.{rules}
use Rattle.blocking.proofs.put_chains.Goals as goal

pub overflow_add-step : goal.overflow_add-step
overflow_add-step c =
    search (rules, root-few c.requires (rw c.pair-p.ensures.same at c.trace-b.ensures))

pub offset_bounds-scratch-n : goal.offset_bounds-scratch-n
offset_bounds-scratch-n c =
    search (rules, root-few c.requires (rw c.pair-p.ensures.same at c.trace-b.ensures))

pub bounds-scratch-n : goal.bounds-scratch-n
bounds-scratch-n c =
    root-reads c.requires (rw c.pair-p.ensures.same at c.trace-b.ensures)

pub put_first-first-requires : goal.put_first-first-requires
put_first-first-requires c =
    first-asks c.requires (rw c.pair-p.ensures.same at c.trace-b.ensures)

pub slice_bounds-put_second-end : goal.slice_bounds-put_second-end
slice_bounds-put_second-end c =
    let same = c.pair-p.ensures.same in
    rw same (steps-inside c.requires (rw same at c.trace-b.ensures) refl c.put_first-first.ensures.size c.put_first-first.ensures.stored)

pub put_second-second-requires : goal.put_second-second-requires
put_second-second-requires c =
    let same = c.pair-p.ensures.same in
    let t = rw same at c.trace-b.ensures in
    let height : ℕ = get_or c.args.scratch.now (pair_at c.args.list.words.now c.args.k).launch 0 - 1 in
    let cut : 2 * c.args.list.registers + height - 2 * c.args.list.registers ≡ height = omega arith in
    rw (same, cut)
    (second-asks c.requires t {count = height} refl c.put_first-first.ensures.size c.put_first-first.ensures.stored _
    (search (rules, first_short c.requires t c.put_first-first.ensures.size)))

pub overflow_cast-result : goal.overflow_cast-result
overflow_cast-result c =
    search (rules, root-few c.requires (rw c.pair-p.ensures.same at c.trace-b.ensures))

pub returns : goal.returns
returns c =
    let same = c.pair-p.ensures.same in
    let height : ℕ = get_or c.args.scratch.now (pair_at c.args.list.words.now c.args.k).launch 0 - 1 in
    let cut : 2 * c.args.list.registers + height - 2 * c.args.list.registers ≡ height = omega arith in
    chains-in c.requires (rw same at c.trace-b.ensures) {count = height} refl c.put_first-first.ensures.size c.put_first-first.ensures.stored
    (rw (same, cut) at c.put_second-second.ensures.size) (rw (same, cut) at c.put_second-second.ensures.stored)
