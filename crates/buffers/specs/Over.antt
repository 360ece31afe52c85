-- A buffer whose first places are filled, and one that is clear.
use Rattle.std.specs.Prelude.{ℕ, List, ◌++◌, length, drop, replicate}

-- xs in the first places, the later ones kept
abbrev pub over : List ℕ → List ℕ → List ℕ
over xs buffer = xs ++ drop (length xs) buffer

-- k places that hold 0
abbrev pub zeros : ℕ → List ℕ
zeros k = replicate k 0
