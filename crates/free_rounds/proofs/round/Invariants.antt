-- `round`: each pair relaxed once, up or down the list.
-- Invariant: `Part`, the pairs at the first i places have what both rules ask of the times at the start; and k is the place of the next turn.
use Rattle.std.proofs.Common.{◌≡◌, ◌<◌}
use Rattle.list_format.specs.Lists.{place_of}
use Rattle.free_rounds.proofs.RoundLaws.{Part}
use Rattle.free_rounds.proofs.round.Given as goal

abbrev pub invariant-loop-i : goal.invariant-loop-i
invariant-loop-i l =
    Part l.list.words.now l.period l.down l.initial.x l.x l.i × (l.i < l.list.pairs → l.k ≡ place_of l.list.pairs l.down l.i)
