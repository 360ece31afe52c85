-- As it is written, and then with its needs counted in.
use Rattle.list_format.proofs.ListLaws.{is-counted}
use Rattle.delay_list.proofs.pair_at.Goals as goal

pub returns : goal.returns
returns c =
    rw c.count_needs.ensures (is-counted c.args.words.now c.args.k c.written_at.ensures)
