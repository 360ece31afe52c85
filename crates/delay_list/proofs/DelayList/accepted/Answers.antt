-- The counts of an accepted list are those that pairs are taken by (`usable-list`).
use Rattle.std.proofs.Common.{sym, ◌∙◌}
use Rattle.list_format.proofs.ListLaws.{accepted→none, usable-list}
use Rattle.delay_list.proofs.DelayList.accepted.Goals as goal

pub invariant_of-result : goal.invariant_of-result
invariant_of-result c =
    let a = accepted→none c.args.words.now (sym c.verdict.ensures ∙ c.in_ok-counts.was) in
    record { usable = usable-list c.args.words.now a.list }
