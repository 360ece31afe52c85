-- The definitions give every answer of the table, over pairs and over the words of the list; both sides are computed.
use mathlib.Core.List.{map}
use mathlib.Core.Path.{◌≡◌, refl}
use Rattle.timing.specs.Rules.{admissible}
use Rattle.ordering.specs.Order.{not_above, insert, ordered}
use Rattle.search.specs.Search.{first_from, least}
use Rattle.buffers.specs.Run.{run}
use Rattle.words.specs.Word.{total}
use Rattle.refusals.specs.Checks.{or_check, fault_after, each_check}
use Rattle.refusals.specs.Reply.{unless}
use Rattle.list_format.specs.Lists.{need_words_by, hold_at, setup_at, pair_at, pairs_from, no_needs}
use Rattle.list_format.specs.Write.{given_needs, writing_by}
use Rattle.free_laws.specs.Free.{relax, round, rounds, free_at, free_works, common, free_period, free_schedule}
use Rattle.split_laws.specs.Split.{works, splits, first_of, first_split, split_works}
use Rattle.plan_laws.specs.Plan.{two_works, two_period, two_offset, two_split, two_timings}
use Rattle.split.specs.Splitting.{split_outcome, splitting}
use Rattle.planner.specs.PlanCall.{planning}
use Rattle.converter.specs.Convert.{written_from, strung, converting}
use Rattle.examples.specs.Examples.{computed, numbers_of_pairs, list_for, called, tried, answers, table}

pub examples-shown : (map computed table ≡ table) × (map called table ≡ map answers table)
unfolding computed numbers_of_pairs list_for called tried answers table
    admissible first_from least run total or_check fault_after each_check unless
    need_words_by hold_at setup_at pair_at pairs_from no_needs given_needs writing_by
    not_above insert ordered written_from strung converting
    relax round rounds free_at free_works common free_period free_schedule works splits first_of first_split
    split_works two_works two_period two_offset two_split two_timings split_outcome splitting planning
examples-shown = (refl, refl)
