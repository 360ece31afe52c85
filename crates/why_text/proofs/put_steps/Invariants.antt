-- `put_steps`: a line for each step.
-- Invariant `Listing`: the lines of the first i steps are stored.
use lib.ListN.{length, get_or}
use Rattle.list_format.specs.Lists.{pairs}
use Rattle.text_pieces.proofs.PutLaws.{Listing}
use Rattle.why_text.specs.WhyText.{step_width, step_line}
use Rattle.why_text.proofs.put_steps.Given as goal

abbrev pub invariant-loop-step : goal.invariant-loop-step
invariant-loop-step l =
    Listing step_width (λ k. step_line l.period l.offset (pairs l.words) (get_or l.steps k 0)) (length l.steps) l.initial.text l.at l.text l.last l.step-index
