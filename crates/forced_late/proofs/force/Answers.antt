-- `force`: the step is not broken, or the register that it comes from is not late, or the register that it leads to is marked.
use Rattle.forced_late.proofs.GrowLaws.{depth-few, forces-marked}
use borrow.Author.Rules.{rules}
use Rattle.forced_late.proofs.force.Goals as goal

pub overflow_add-depth : goal.overflow_add-depth
overflow_add-depth c =
    search (rules, depth-few c.args.list.words.now c.args.list.registers c.args.scratch.now c.requires.0 c.args.from c.requires.1.from_in)

pub returns : goal.returns
returns c =
    forces-marked c.args.list.words.now c.args.list.registers c.args.scratch.now c.requires.0 c.requires.1 (search rules) (search rules) (search rules)
    c.mark.ensures
