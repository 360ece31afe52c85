-- What is printed for a refusal, and for a text that cannot be read: one line, which says in plain words what is wrong.
use Rattle.std.specs.Prelude.{ℕ, ◌+◌, cond, List, [], ◌∷◌, ◌++◌, ltb, eqb, Option, None, Some}
use Prim.Native.String.{String}
use Rattle.refusals.specs.Checks.{number_of}
use Rattle.text_pieces.specs.Pieces.{letters, named, space, number_width, refused_at}
use Rattle.text_pieces.specs.Saying.{Saying, trouble as say_trouble}
use Rattle.scan.specs.declared.FaultAt.{FaultAt}
use Rattle.scan.specs.declared.TextFault.{TextFault}
use Rattle.scan.specs.declared.TextFault.TheVariants.{BadByte, LargeNumber, BadFirstLine, BadLine, TooManyNumbers, NoNumber, TooLong, OtherPairs}
use Rattle.refusal_text.specs.declared.Cause.{Cause}
use Rattle.refusal_text.specs.declared.Cause.TheVariants.{Of, Period, Offset, Count, Timing}

abbrev pub colon : ℕ
colon = 58

abbrev pub comma : ℕ
comma = 44

-- `)`
abbrev pub closing : ℕ
closing = 41

-- ---- how long a line can be

-- the words for a refusal, or for what is wrong with a text
abbrev pub words_width : ℕ
words_width = 80

-- " byte " with its number
abbrev pub byte_width : ℕ
byte_width = 6 + number_width

-- "line " and " column " with their numbers, and the byte
abbrev pub place_width : ℕ
place_width = 5 + number_width + (8 + number_width + byte_width)

-- the whole line: that of a fault is the longest
abbrev pub line_width : ℕ
line_width = place_width + words_width

-- ---- the words

-- the words for a number: those of the row with that number, or what the rest says if there is none
unfoldable pub words_for : List (ℕ × String) → (ℕ → List ℕ) → ℕ → List ℕ
words_for [] rest number = rest number
words_for ((k, words) ∷ rows) rest number = cond (eqb number k) (letters words) (words_for rows rest number)

-- what a refusal of a call means; 31 to 34: the causes of 3
abbrev pub call_meanings : List (ℕ × String)
call_meanings =
    (3, " period, offset or timing out of range, or not one timing for each register\n")
    ∷ (31, " the period is not from 1 to 1009999\n")
    ∷ (32, " the offset is above 1009999\n")
    ∷ (33, " not one timing for each register\n")
    ∷ (34, " a timing is above 516109489\n")
    ∷ []

unfoldable pub call_meaning : ℕ → List ℕ
call_meaning = words_for call_meanings (λ number. letters " a buffer is too short\n")

-- what a refusal of a pair means
abbrev pub pair_meanings : List (ℕ × String)
pair_meanings =
    (14, " a register is not below the count of registers\n")
    ∷ (15, " a delay is above 1000000 picoseconds\n")
    ∷ (16, " a least delay is above its greatest\n")
    ∷ (19, " a least delay is below the hold of its capture register\n")
    ∷ (20, " pairs have to rise by launch, then capture: convert_list orders them\n")
    ∷ []

unfoldable pub pair_meaning : ℕ → List ℕ
pair_meaning = words_for pair_meanings call_meaning

-- what a refusal means
abbrev pub list_meanings : List (ℕ × String)
list_meanings =
    (11, " the count of words, of numbers or of needs is wrong\n")
    ∷ (12, " the count of registers or of pairs is out of range\n")
    ∷ (13, " a word of the wrong kind, or a need above 9999 picoseconds\n")
    ∷ (17, " the sum at the end is wrong: the list is damaged\n")
    ∷ (18, " all needs are zero: such a list has no words for them\n")
    ∷ []

unfoldable pub meaning : ℕ → List ℕ
meaning = words_for list_meanings pair_meaning

-- the number of a cause: that of the refusal, or one of the causes of 3
unfoldable pub cause_number : Cause → ℕ
cause_number (Of refusal) = number_of refusal
cause_number Period = 31
cause_number Offset = 32
cause_number Count = 33
cause_number Timing = 34

-- what is wrong with a text
abbrev pub troubles : List (ℕ × String)
troubles =
    (1, " only digits, spaces, commas and comments may stand here\n")
    ∷ (2, " a number is above 4294967295\n")
    ∷ (3, " the first line holds the count of registers, or that and the count of pairs\n")
    ∷ (4, " a line holds two needs, before all pairs, or the four numbers of a pair\n")
    ∷ (5, " too many numbers: a text has at most 9217, for 512 registers and 2048 pairs\n")
    ∷ (6, " the text holds no number\n")
    ∷ (8, " the first line says another number of pairs\n")
    ∷ []

unfoldable pub trouble : ℕ → List ℕ
trouble = words_for troubles (λ fault. letters " the text is longer than 131072 bytes\n")

-- the number of what is wrong with a text
unfoldable pub fault_number : TextFault → ℕ
fault_number BadByte = 1
fault_number LargeNumber = 2
fault_number BadFirstLine = 3
fault_number BadLine = 4
fault_number TooManyNumbers = 5
fault_number NoNumber = 6
fault_number TooLong = 7
fault_number OtherPairs = 8

-- the line of a refusal, with the words for its cause
unfoldable pub caused_line : ℕ → ℕ → ℕ → List ℕ
caused_line number place cause = refused_at number place colon ++ meaning cause

-- the line of a refusal that has one cause
abbrev pub refusal_line : ℕ → ℕ → List ℕ
refusal_line number place = caused_line number place number

-- the same, as what a program says
abbrev pub refused_saying : ℕ → ℕ → Saying
refused_saying number place = say_trouble (refusal_line number place)

-- the refusal of a list that was made from a text, with the line of the text
unfoldable pub refusal_line_in : ℕ → ℕ → ℕ → List ℕ
refusal_line_in number place line = refused_at number place space ++ (named (letters "(line ") line closing ++ (letters ":" ++ meaning number))

-- the byte at fault; 256 is the end of the text
unfoldable pub byte_words : ℕ → List ℕ
byte_words byte = cond (ltb byte 256) (named (letters " byte ") byte colon) (letters " end:")

-- the byte of a text, or that for its end
unfoldable pub end_number : Option ℕ → ℕ
end_number (Some byte) = byte
end_number None = 256

unfoldable pub place_words : ℕ → ℕ → ℕ → List ℕ
place_words line column byte = named (letters "line ") line comma ++ (named (letters " column ") column comma ++ byte_words byte)

unfoldable pub fault_line : ℕ → ℕ → ℕ → ℕ → List ℕ
fault_line fault line column byte = place_words line column byte ++ trouble fault

-- the line of a fault that the reader of a text found
unfoldable pub fault_line_of : FaultAt → List ℕ
fault_line_of wrong = fault_line (fault_number wrong.fault) wrong.place.line wrong.place.column (end_number wrong.byte)
