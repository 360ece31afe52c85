-- The words of a list with the needs of its registers counted into the delays of its pairs.
use Rattle.std.specs.Prelude.{ℕ, ◌<◌, List, ◌∷◌, ◌≡◌, length}
use Rattle.buffers.specs.Run.{run}
use Rattle.list_format.specs.Lists.{word, registers, pair_count, place_by, pair_at, IsUsable}
use Rattle.list_format.specs.Write.{three_of}

-- the head and three words for each pair, with its needs counted in; no words of needs, and no end word
abbrev pub counted_in : List ℕ → List ℕ
counted_in ws = word ws 0 ∷ run (λ k. three_of (pair_at ws k)) (pair_count ws)

-- a list of m pairs, and as many places as it has words, with words of needs
pub record Countable (ws : List ℕ) (m : ℕ) (buffer : List ℕ) : Type 0 where
  pub usable : IsUsable ws
  pub pairs_are : m ≡ pair_count ws
  pub room : place_by (registers ws) m < length buffer
