-- Two lists as bytes, pooled: the bytes of one list, or a line that says what is wrong, and with which of the two.
use Rattle.std.specs.Prelude.{ℕ, cond, List, [], ◌∷◌, ◌++◌, eqb}
use Prim.Native.String.{String}
use Rattle.refusals.specs.Reply.{told}
use Rattle.pooling.specs.Pool.{pooling, refused_list}
use Rattle.text_pieces.specs.Pieces.{letters, named, space, refused_at}
use Rattle.list_bytes.specs.ListBytes.{max_words, list_of}
use Rattle.refusal_text.specs.RefusalText.{colon, closing, words_for, meaning}
use Rattle.convert_text.specs.ConvertText.{Product, error_line, made_done}

-- what a refusal of two lists together means; other numbers are of one list, or of the call
abbrev pub pool_meanings : List (ℕ × String)
pool_meanings =
    (21, " the lists have other counts of registers or other needs\n")
    ∷ (22, " the pooled list has more than 2048 pairs\n")
    ∷ []

unfoldable pub pool_meaning : ℕ → List ℕ
pool_meaning = words_for pool_meanings meaning

-- the line of a refusal of neither list
unfoldable pub refusal_line_of_neither : ℕ → ℕ → List ℕ
refusal_line_of_neither number place = refused_at number place colon ++ pool_meaning number

-- the line of a refusal of one of the two, with the list
unfoldable pub refusal_line_of_one : ℕ → ℕ → ℕ → List ℕ
refusal_line_of_one list number place = refused_at number place space ++ (named (letters "(list ") list closing ++ (letters ":" ++ pool_meaning number))

-- the refusal of a call with two lists: with the list, 1 or 2, or 0 where it is of neither
unfoldable pub refusal_line_of : ℕ → ℕ → ℕ → List ℕ
refusal_line_of list number place = cond (eqb list 0) (refusal_line_of_neither number place) (refusal_line_of_one list number place)

-- the line of a refusal of that list, 1 or 2, or of neither: 0
abbrev pub not_pooled : ℕ → ℕ → ℕ → Product
not_pooled list number place = error_line (refusal_line_of list number place)

-- of the words of both
abbrev pub pooled_from : List ℕ → List ℕ → Product
pooled_from ws vs = told (not_pooled (refused_list ws vs)) made_done (pooling ws vs max_words)

-- of the bytes of both
abbrev pub pooled_bytes : List ℕ → List ℕ → Product
pooled_bytes bs cs = pooled_from (list_of bs) (list_of cs)
