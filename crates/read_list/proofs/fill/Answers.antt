-- `fill`: the numbers of all pairs fill the buffer from the front.
-- The reader comes to the next pair of the list (`next-is`) until there is none.
use Rattle.std.proofs.Common.{◌*◌, refl, sym, ◌∙◌, arith, lt-ltb}
use Rattle.buffers.proofs.FillLaws.{filled_none, filling-start, filling-turn}
use Rattle.list_format.proofs.WalkLaws.{next-below, next-is}
use Rattle.read_list.proofs.fill.Goals as goal

pub loop-p-init : goal.loop-p-init
loop-p-init c =
    record { same = rw c.new-reader.ensures.0; read = rw c.new-reader.ensures.1 (filling-start (filled_none _)) }

pub loop-p-preserved : goal.loop-p-preserved
loop-p-preserved c =
    let ws = c.args.words.now in
    let at = c.loop-p in
    let came = rw at.invariant.same at (sym c.in-Some.is ∙ c.next.ensures) in
    let place = rw at.invariant.same at c.advanced-reader.ensures.1 in
    let below = next-below ws at.reader.at came in
    record {
      same = rw c.advanced-reader.ensures.0 at.invariant.same;
      read = rw (place, lt-ltb _ _ below)
          (filling-turn 4 (λ k. refl) (omega arith) at.invariant.read below (4 * at.reader.at) (omega arith)
          (rw (next-is ws at.reader.at came) at c.put.ensures));
    }
