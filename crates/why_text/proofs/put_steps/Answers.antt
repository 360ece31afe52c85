-- `put_steps`: a line for each step.
-- Invariant `Listing`: the lines of the first i steps are stored.
use native.Mathlib.Omega.{arith}
use Rattle.text_pieces.proofs.PutLaws.{listing_start, listing-turn, listing-end}
use Rattle.why_text.specs.WhyText.{chain_lines}
use Rattle.why_text.proofs.put_steps.Goals as goal

pub loop-step-init : goal.loop-step-init
loop-step-init c = listing_start (omega arith)

pub loop-step-preserved : goal.loop-step-preserved
loop-step-preserved c = listing-turn c.loop-step.invariant (omega arith) c.put_step-last.ensures

pub returns : goal.returns
unfolding chain_lines
returns c = listing-end c.loop-step.invariant (omega arith)
