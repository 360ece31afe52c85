-- The definitions give every text of the table: by computation, from the bytes of a list to the last newline.
use mathlib.Core.List.{map}
use mathlib.Core.Path.{◌≡◌, refl}
use Rattle.timing.specs.Rules.{admissible}
use Rattle.ordering.specs.Order.{not_above}
use Rattle.search.specs.Search.{first_from, least}
use Rattle.buffers.specs.Run.{run}
use Rattle.words.specs.Word.{total}
use Rattle.refusals.specs.Checks.{number_of, or_check, fault_after, each_check}
use Rattle.refusals.specs.Reply.{unless, told}
use Rattle.list_format.specs.Lists.{need_words_by, hold_at, setup_at, pair_at, pairs_from, no_needs}
use Rattle.free_laws.specs.Free.{relax, round, rounds, free_at, free_works, common, free_period, free_schedule}
use Rattle.split_laws.specs.Split.{works, splits, first_of, first_split, split_works}
use Rattle.plan_laws.specs.Plan.{two_works, two_period, two_offset, two_split, two_timings}
use Rattle.planner.specs.PlanCall.{planning}
use Rattle.list_bytes.specs.ListBytes.{list_of}
use Rattle.text_pieces.specs.Pieces.{letters, decimal_in, decimal, refused_at}
use Rattle.report.specs.Report.{periods_line, register_lines, report}
use Rattle.report.specs.Printed.{printed_table}

pub printed-shown : map (λ p. report p.bytes) printed_table ≡ map (λ p. letters p.text) printed_table
unfolding printed_table admissible not_above first_from least run total number_of or_check fault_after each_check unless
    need_words_by hold_at setup_at pair_at pairs_from no_needs
    relax round rounds free_at free_works common free_period free_schedule works splits first_of first_split
    split_works two_works two_period two_offset two_split two_timings planning
    decimal_in decimal refused_at periods_line register_lines told list_of report
printed-shown = refl
