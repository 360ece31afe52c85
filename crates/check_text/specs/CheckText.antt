-- What is printed for a schedule that is checked against a list: whether it is admissible, else the first pair that breaks a rule; and the
-- smallest margin of all.
use Rattle.std.specs.Prelude.{ℕ, ◌+◌, false, ◌||◌, cond, List, ◌++◌, ltb, eqb, ℤ, length}
use Rattle.refusals.specs.Reply.{told}
use Rattle.timing.specs.Limits.{max_period}
use Rattle.list_format.specs.Lists.{registers, pair_at}
use Rattle.checker.specs.Check.{answer_for, checking}
use Rattle.checker.specs.declared.Rule.{Rule}
use Rattle.checker.specs.declared.Rule.TheVariants.{Setup, Hold}
use Rattle.checker.specs.declared.Smallest.{Smallest}
use Rattle.checker.specs.declared.Checking.{Checking}
use Rattle.checker.specs.declared.Checking.TheVariants.{NoPairs, Admissible, Broken}
use Rattle.text_pieces.specs.Pieces.{letters, signed, named, space, newline, number_width, signed_width}
use Rattle.text_pieces.specs.Saying.{Saying, text, trouble}
use Rattle.refusal_text.specs.RefusalText.{caused_line, fault_line_of}
use Rattle.list_bytes.specs.ListBytes.{list_of}
use Rattle.std.specs.Prelude.{Ok, Err}
use Rattle.scan.specs.Scan.{Scanned, scanned, stored_of}

-- ---- how long a text can be

-- "breaks setup: "
abbrev pub rule_width : ℕ
rule_width = 14

-- " setup of "
abbrev pub of_width : ℕ
of_width = 10

-- "launch " and "capture " with their numbers
abbrev pub registers_width : ℕ
registers_width = 7 + number_width + (8 + number_width)

-- "pair " with its number, the rule, the registers
abbrev pub broken_width : ℕ
broken_width = 5 + number_width + (rule_width + registers_width)

-- "smallest margin " with its number, the rule
abbrev pub margin_width : ℕ
margin_width = 16 + (signed_width + of_width)

-- "pair " with its number, a space, the registers
abbrev pub pair_width : ℕ
pair_width = 5 + number_width + (1 + registers_width)

-- places enough for any text: these two lines are the longest
abbrev pub text_places : ℕ
text_places = broken_width + (margin_width + pair_width)

-- ---- the lines

abbrev pub colon : ℕ
colon = 58

abbrev pub comma : ℕ
comma = 44

unfoldable pub rule_words : Rule → List ℕ
rule_words Setup = letters "breaks setup: "
rule_words Hold = letters "breaks hold: "

unfoldable pub of_words : Rule → List ℕ
of_words Setup = letters " setup of "
of_words Hold = letters " hold of "

abbrev pub registers_words : ℕ → ℕ → List ℕ
registers_words launch capture = named (letters "launch ") launch space ++ named (letters "capture ") capture newline

-- pair k, counted from 0, the rule that it breaks, and its registers
abbrev pub broken_words : ℕ → Rule → ℕ → ℕ → List ℕ
broken_words k rule launch capture = named (letters "pair ") k space ++ (rule_words rule ++ registers_words launch capture)

-- a margin and the rule that has it
abbrev pub margin_words : ℤ → Rule → List ℕ
margin_words margin rule = letters "smallest margin " ++ (signed margin colon ++ of_words rule)

-- pair k and its registers
abbrev pub pair_words : ℕ → ℕ → ℕ → List ℕ
pair_words k launch capture = named (letters "pair ") k comma ++ (letters " " ++ registers_words launch capture)

-- with the registers of the list ws
unfoldable pub broken_line : List ℕ → ℕ → Rule → List ℕ
broken_line ws k rule = broken_words k rule (pair_at ws k).launch (pair_at ws k).capture

unfoldable pub margin_line : List ℕ → Smallest → List ℕ
margin_line ws x = margin_words x.margin x.rule ++ pair_words x.pair (pair_at ws x.pair).launch (pair_at ws x.pair).capture

-- the answer for an accepted list; a refusal has a line of its own
unfoldable pub answer_text : List ℕ → Checking → List ℕ
answer_text ws NoPairs = letters "admissible\nno pairs\n"
answer_text ws (Admissible x) = letters "admissible\n" ++ margin_line ws x
answer_text ws (Broken k rule x) = broken_line ws k rule ++ margin_line ws x

-- what a refusal is caused by: of 3, the period (31), a count of timings other than that of registers (33), or a timing (34)
unfoldable pub check_cause : List ℕ → ℕ → ℕ → ℕ → ℕ
check_cause ws period count number =
    cond (eqb number 3) (cond (eqb period 0 || ltb max_period period) 31 (cond (eqb count (registers ws)) 34 33)) number

abbrev pub check_refused : List ℕ → ℕ → ℕ → ℕ → ℕ → Saying
check_refused ws period count number place = trouble (caused_line number place (check_cause ws period count number))

abbrev pub answer_said : List ℕ → ℕ → List ℕ → List ℕ → List ℕ → Saying
answer_said ws period xs returned stored = text (answer_text ws (answer_for ws period xs))

-- what is said for the list ws, a period, and the schedule xs
unfoldable pub checked_said : List ℕ → ℕ → List ℕ → Saying
checked_said ws period xs = told (check_refused ws period (length xs)) (answer_said ws period xs) (checking ws period xs)

-- from the numbers xs of the text of a schedule: a fault in the text comes first. The faults of the lines of a list do not occur:
-- `no-line-fault` in scan's proofs
unfoldable pub scanned_said : List ℕ → ℕ → Scanned → List ℕ → Saying
scanned_said ws period (Err wrong) xs = trouble (fault_line_of wrong)
scanned_said ws period (Ok found) xs = checked_said ws period xs

-- what is said for the bytes bs of a list, a period, and the text ts of a schedule
abbrev pub check_text : List ℕ → ℕ → List ℕ → Saying
check_text bs period ts = scanned_said (list_of bs) period (scanned false ts) (stored_of false ts)
