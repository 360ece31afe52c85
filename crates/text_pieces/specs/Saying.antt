-- What a program says: a text, or a line that tells what is wrong.
use Rattle.std.specs.Prelude.{ℕ, List, ◌≡◌, length, Result, Ok, Err}
use Rattle.text_pieces.specs.Pieces.{Put}
use Rattle.text_pieces.specs.declared.Trouble.{Trouble}

pub data Saying : Type 0 where
  text : List ℕ → Saying
  trouble : List ℕ → Saying

-- the bytes stored
unfoldable pub bytes_of : Saying → List ℕ
bytes_of (text bs) = bs
bytes_of (trouble bs) = bs

-- what is returned: the count of a text's bytes, or that of the line's
abbrev pub Said : Type 0
Said = Result ℕ Trouble

abbrev pub trouble_of : ℕ → Trouble
trouble_of size = record { size = size }

unfoldable pub returned_for : Saying → Said
returned_for (text bs) = Ok (length bs)
returned_for (trouble bs) = Err (trouble_of (length bs))

-- p was said in at most w bytes: returned as r, and stored in the first places of a buffer that held `was` and holds `now`
pub record SaidAs (w : ℕ) (p : Saying) (was now : List ℕ) (r : Said) : Type 0 where
  pub answer : r ≡ returned_for p
  pub stored : Put w (bytes_of p) was 0 now (length (bytes_of p))
