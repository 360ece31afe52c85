-- `record_pair`: the flags of a pair, one to a row, from `at` on.
-- Invariant `Filling`: those of the first k rows are stored, behind what stands before `at`.
use mathlib.Core.List.{[], ◌∷◌}
use lib.ListN.{take}
use Rattle.buffers.proofs.FillLaws.{Filling}
use Rattle.timing.specs.Limits.{per_pair}
use Rattle.split_laws.specs.Choices.{flag_at}
use Rattle.propagate.proofs.record_pair.Given as goal

abbrev pub invariant-loop-k : goal.invariant-loop-k
invariant-loop-k l = Filling (take l.at l.initial.flags) (λ k. flag_at l.period l.offset l.pair k ∷ []) per_pair l.initial.flags l.flags l.k
