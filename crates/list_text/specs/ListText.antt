-- A delay list as plain text: the counts of registers and of pairs in the first line; then, unless all needs are 0, a line for each register,
-- hold setup; then a line for each pair, launch capture least greatest.
use Rattle.std.specs.Prelude.{ℕ, ◌+◌, ◌*◌, true, false, cond, List, ◌++◌, ltb, leb, eqb, get_or, take, drop}
use Rattle.timing.specs.Limits.{max_registers, max_pairs}
use Rattle.buffers.specs.Run.{run}
use Rattle.buffers.specs.Over.{zeros}
use Rattle.refusals.specs.Reply.{told}
use Rattle.list_format.specs.Read.{read_places, reading}
use Rattle.list_format.specs.Write.{given_count, given_hold, given_setup, given_needs, writing_by}
use Rattle.text_pieces.specs.Pieces.{number, space, newline, number_width}
use Rattle.std.specs.Prelude.{Option, None, Some, Ok, Err}
use Rattle.scan.specs.Scan.{Scanned, line_of, scanned, stored_of}
use Rattle.text_pieces.specs.Saying.{Saying, text}
use Rattle.refusal_text.specs.RefusalText.{line_width, refusal_line, refusal_line_in, refused_saying, fault_line_of}
use Rattle.list_bytes.specs.ListBytes.{max_words, list_of}
use Rattle.convert_text.specs.ConvertText.{Product, error_line, converted_from}

-- ---- how long a text can be

-- the line of two numbers: the counts, or the needs of a register
abbrev pub two_width : ℕ
two_width = 2 * number_width

-- the line of a pair
abbrev pub pair_width : ℕ
pair_width = 4 * number_width

-- the lines of all registers and pairs
abbrev pub lines_width : ℕ
lines_width = two_width * max_registers + pair_width * max_pairs

-- the text of the longest list
abbrev pub list_width : ℕ
list_width = two_width + lines_width

-- places enough for any text, be it of a list or of a refusal
abbrev pub shown_places : ℕ
shown_places = lines_width + line_width

-- ---- from a list to its text

-- the line of two numbers
abbrev pub two_line : ℕ → ℕ → List ℕ
two_line a b = number a space ++ number b newline

-- the line of four
abbrev pub four_line : ℕ → ℕ → ℕ → ℕ → List ℕ
four_line a b c d = number a space ++ (number b space ++ (number c space ++ number d newline))

-- the line of register r, of the needs ys
abbrev pub needs_line : List ℕ → ℕ → List ℕ
needs_line ys r = two_line (given_hold ys r) (given_setup ys r)

-- the line of pair k, of the numbers xs
abbrev pub pair_line : List ℕ → ℕ → List ℕ
pair_line xs k = four_line (get_or xs (4 * k) 0) (get_or xs (4 * k + 1) 0) (get_or xs (4 * k + 2) 0) (get_or xs (4 * k + 3) 0)

-- the text of n registers with the needs ys and of the pairs that the numbers xs make: as many lines of needs as a list has words of them
unfoldable pub text_of : ℕ → List ℕ → List ℕ → List ℕ
text_of n xs ys = two_line n (given_count xs) ++ (run (needs_line ys) (given_needs n ys) ++ run (pair_line xs) (given_count xs))

-- the numbers of the longest list
abbrev pub list_numbers : ℕ
list_numbers = read_places max_registers max_pairs

-- the counts of registers and of pairs are returned by reading, four numbers for each pair are stored, and then the needs
abbrev pub shown_done : List ℕ → List ℕ → List ℕ
shown_done returned stored =
    let size : ℕ = 4 * get_or returned 1 0 in
    text_of (get_or returned 0 0) (take size stored) (drop size stored)

abbrev pub shown_said : List ℕ → List ℕ → Saying
shown_said returned stored = text (shown_done returned stored)

-- what is said for the bytes of a list
abbrev pub shown_text : List ℕ → Saying
shown_text bs = told refused_saying shown_said (reading (list_of bs) list_numbers)

-- ---- from a text to the bytes of its list

-- the number of the text, counted from 1, that ends what a refusal is of, and none if it is of the whole, where the text has so many needs:
-- 13 is of the needs of a register, 14, 15, 16 and 19 are of a pair, and their place is its index
unfoldable pub last_of : ℕ → ℕ → ℕ → Option ℕ
last_of needs number place =
    cond (leb max_pairs place) None
    (cond (eqb number 13) (Some (2 * place + 3)) (cond (ltb number 14) None (Some (needs + 4 * place + 5))))

-- the line of a refusal; if it is not of the whole, with the line of the text bs
unfoldable pub refused_with : List ℕ → ℕ → ℕ → Option ℕ → List ℕ
refused_with bs number place None = refusal_line number place
refused_with bs number place (Some last) = refusal_line_in number place (line_of last bs)

abbrev pub refused_line : List ℕ → ℕ → ℕ → ℕ → List ℕ
refused_line bs needs number place = refused_with bs number place (last_of needs number place)

abbrev pub made_refused : List ℕ → ℕ → ℕ → ℕ → Product
made_refused bs needs number place = error_line (refused_line bs needs number place)

-- the words that writing stores, converted: their pairs come in the order of the text
abbrev pub made_stored : List ℕ → List ℕ → Product
made_stored returned stored = converted_from stored

-- from the count of registers, the numbers xs of the pairs in any order and the needs ys, which stand in the text bs; so many of its numbers
-- are needs
abbrev pub made_from : List ℕ → ℕ → ℕ → List ℕ → List ℕ → Product
made_from bs needs n xs ys = told (made_refused bs needs) made_stored (writing_by false n xs ys max_words)

-- the needs of n registers, of the numbers xs of a text after the first: all are 0 where it has none
unfoldable pub needs_given : ℕ → ℕ → List ℕ → List ℕ
needs_given needs n xs = cond (eqb needs 0) (zeros (2 * n)) (take needs xs)

-- from the count of registers and the numbers of a text after it: the needs, then four for each pair. (A count of pairs is not among them:
-- Scan.`number_ended`)
abbrev pub made_with : List ℕ → ℕ → ℕ → List ℕ → Product
made_with bs needs n xs = made_from bs needs n (drop needs xs) (needs_given needs n xs)

-- from what is scanned
unfoldable pub made_of : List ℕ → Scanned → List ℕ → Product
made_of bs (Err wrong) xs = error_line (fault_line_of wrong)
made_of bs (Ok found) xs = made_with bs found.needs (get_or xs 0 0) (drop 1 xs)

-- what is made of a text
abbrev pub made : List ℕ → Product
made bs = made_of bs (scanned true bs) (stored_of true bs)
