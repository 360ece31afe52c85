-- Reading a delay list into plain numbers: launch, capture, least and greatest of each pair, then hold and setup of each register.
use Rattle.std.specs.Prelude.{ℕ, ◌+◌, ◌*◌, List, [], ◌∷◌, ◌++◌, ltb, Result, Ok, Err}
use Rattle.timing.specs.declared.Pair.{Pair}
use Rattle.buffers.specs.Run.{run}
use Rattle.refusals.specs.Checks.{Check}
use Rattle.refusals.specs.Reply.{Reply, refusal_of, numbers, Outcome, done, answered}
use Rattle.list_format.specs.Lists.{registers, pair_count, written_at, needs_of, list_checks}
use Rattle.refusals.specs.declared.Refused.{Refused}
use Rattle.list_format.specs.declared.Counts.{Counts}
use Rattle.refusals.specs.declared.Refusal.TheVariants.{Room}

abbrev pub four_of : Pair → List ℕ
four_of p = p.launch ∷ p.capture ∷ p.least ∷ p.greatest ∷ []

-- four numbers for each pair of the list, as they are written
abbrev pub numbers_of : List ℕ → List ℕ
numbers_of ws = run (λ k. four_of (written_at ws k)) (pair_count ws)

-- the places that the numbers of n registers and m pairs take
abbrev pub read_places : ℕ → ℕ → ℕ
read_places n m = 4 * m + 2 * n

-- 11 to 20, then 2: an answer buffer of fewer than 4m + 2n places
abbrev pub read_checks : List ℕ → ℕ → List Check
read_checks ws room = list_checks ws ++ ((ltb room (read_places (registers ws) (pair_count ws)), Room, 0) ∷ [])

-- reading into `room` places: n and m are returned, the first 4m + 2n places are filled
unfoldable pub reading : List ℕ → ℕ → Outcome
reading ws room = answered (read_checks ws room) (done (registers ws ∷ pair_count ws ∷ []) (numbers_of ws ++ needs_of ws))

-- the counts of what was read, or a refusal with its place
abbrev pub Reading : Type 0
Reading = Result Counts Refused

-- the number and values of each case of the answer
unfoldable pub read_reply : Reading → Reply
read_reply (Ok c) = numbers (c.registers ∷ c.pairs ∷ [])
read_reply (Err r) = refusal_of r
