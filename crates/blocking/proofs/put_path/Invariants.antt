-- `put_path`: a path, up or down. Invariant `Filling`.
use mathlib.Core.List.{[], ◌∷◌}
use lib.ListN.{length, get_or, take}
use Rattle.buffers.proofs.FillLaws.{Filling}
use Rattle.list_format.specs.Lists.{place_of}
use Rattle.blocking.proofs.put_path.Given as goal

abbrev pub invariant-loop-i : goal.invariant-loop-i
invariant-loop-i l =
    Filling (take l.at l.initial.answer) (λ i. get_or l.path (place_of (length l.path) l.down i) 0 ∷ []) (length l.path) l.initial.answer l.answer l.i
