-- `record_broken`: the flags of all pairs, four to a pair.
-- Invariant `Filling`: those of the first k pairs are stored.
use mathlib.Core.List.{[]}
use Rattle.buffers.proofs.FillLaws.{Filling}
use Rattle.list_format.specs.Lists.{pair_at}
use Rattle.propagate.specs.Store.{flags_of}
use Rattle.propagate.proofs.record_broken.Given as goal

abbrev pub invariant-loop-k : goal.invariant-loop-k
invariant-loop-k l = Filling [] (λ k. flags_of l.period l.offset (pair_at l.list.words.now k)) l.list.pairs l.initial.flags l.flags l.k
