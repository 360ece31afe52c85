-- `fill_split`: the reaches, in the places lent, give the two-timing period, and its split is read from them (`two_in`).
use Rattle.planner.proofs.PlanCallLaws.{free-pos, free_bound, two_fits, two_in}
use Rattle.planner.proofs.fill_split.Goals as goal

pub overflow_sub-free : goal.overflow_sub-free
overflow_sub-free c =
    free-pos c.args.list.usable c.requires.free_is

pub two_period-two-requires : goal.two_period-two-requires
two_period-two-requires c =
    record { size = c.requires.size; top_is = c.requires.common_is; below = free_bound c.args.list.usable c.requires.free_is }

pub overflow_sub-common : goal.overflow_sub-common
overflow_sub-common c =
    two_fits c.args.list.words.now c.requires.common_is c.two_period-two.ensures.period

pub returns : goal.returns
returns c =
    two_in c.requires.common_is c.two_period-two.ensures c.write_split.ensures
