-- `write_split`: the offset for each of the first n registers that is marked late, 0 for any other.
-- Invariant `Filling`: the timings of the first i are stored.
use mathlib.Core.List.{[], ◌∷◌}
use lib.ListN.{get_or}
use Rattle.buffers.proofs.FillLaws.{Filling}
use Rattle.split_laws.specs.Split.{time_of}
use Rattle.split_laws.specs.Choices.{is_late}
use Rattle.propagate.proofs.write_split.Given as goal

abbrev pub invariant-loop-i : goal.invariant-loop-i
invariant-loop-i l = Filling [] (λ k. time_of l.offset (is_late (get_or l.marks k 0)) ∷ []) l.n l.initial.answer l.answer l.i
