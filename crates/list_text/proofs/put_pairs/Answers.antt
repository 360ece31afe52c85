-- `put_pairs`: a line for each pair.
-- Invariant `Listing`: the lines of the first k pairs are stored.
use native.Mathlib.Omega.{arith}
use Rattle.text_pieces.proofs.PutLaws.{listing_start, listing-turn}
use Rattle.list_text.proofs.put_pairs.Goals as goal

pub loop-k-init : goal.loop-k-init
loop-k-init c = listing_start (omega arith)

pub loop-k-preserved : goal.loop-k-preserved
loop-k-preserved c = listing-turn c.loop-k.invariant (omega arith)
    c.put_pair-last.ensures
