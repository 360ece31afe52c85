-- An argument of a program: one decimal number, with blanks, newlines or comments around it or not, and nothing else.
use Rattle.std.specs.Prelude.{ℕ, false, cond, List, eqb, get_or, Option, None, Some, Ok, Err}
use Rattle.scan.specs.Scan.{Scanned, scanned, stored_of}

-- from the numbers of its text
unfoldable pub argument_from : Scanned → List ℕ → Option ℕ
argument_from (Ok n) xs = cond (eqb n.count 1) (Some (get_or xs 0 0)) None
argument_from (Err f) xs = None

abbrev pub argument_of : List ℕ → Option ℕ
argument_of bs = argument_from (scanned false bs) (stored_of false bs)
