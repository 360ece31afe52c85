-- `put_pairs`: a line for each pair.
-- Invariant `Listing`: the lines of the first k pairs are stored.
use Rattle.text_pieces.proofs.PutLaws.{Listing}
use Rattle.list_text.specs.ListText.{pair_width, pair_line}
use Rattle.list_text.proofs.put_pairs.Given as goal

abbrev pub invariant-loop-k : goal.invariant-loop-k
invariant-loop-k l = Listing pair_width (pair_line l.numbers) l.m l.initial.text l.at l.text l.last l.k
