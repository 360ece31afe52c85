-- The text of a plan: what is printed for the bytes of a delay list.
use Rattle.std.specs.Prelude.{ℕ, ◌+◌, ◌*◌, List, ◌++◌, get_or}
use Rattle.timing.specs.Limits.{max_registers, max_scratch}
use Rattle.buffers.specs.Run.{run}
use Rattle.refusals.specs.Reply.{Outcome, told}
use Rattle.list_format.specs.Lists.{registers}
use Rattle.list_bytes.specs.ListBytes.{list_of}
use Rattle.planner.specs.PlanCall.{planning}
use Rattle.text_pieces.specs.Pieces.{letters, number, named, refused_at, space, newline, number_width}

-- ---- the lines

-- the three periods and the offset
unfoldable pub periods_line : List ℕ → List ℕ
periods_line xs =
    named (letters "common ") (get_or xs 0 0) space
    ++ (named (letters "free ") (get_or xs 1 0) space ++ (named (letters "two ") (get_or xs 2 0) space ++ named (letters "offset ") (get_or xs 3 0) newline))

-- a register, its free timing, its two-timing value
abbrev pub register_line : ℕ → ℕ → ℕ → List ℕ
register_line r free two = number r space ++ (number free space ++ number two newline)

-- the line of register r of n, whose free timings are the first n of xs and whose two-timing values are the next n
abbrev pub plan_line : ℕ → List ℕ → ℕ → List ℕ
plan_line n xs r = register_line r (get_or xs r 0) (get_or xs (n + r) 0)

-- the lines of all of them
unfoldable pub register_lines : ℕ → List ℕ → List ℕ
register_lines n xs = run (plan_line n xs) n

-- line one, and a line for each register
abbrev pub plan_lines : ℕ → List ℕ → List ℕ → List ℕ
plan_lines n returned stored = periods_line returned ++ register_lines n stored

abbrev pub refused_line : ℕ → ℕ → List ℕ
refused_line number place = refused_at number place newline

-- ---- how long a text can be

-- "common ", "free ", "two " and "offset " with their numbers
abbrev pub periods_width : ℕ
periods_width = 7 + number_width + (5 + number_width + (4 + number_width + (7 + number_width)))

-- the line of a register
abbrev pub register_width : ℕ
register_width = 3 * number_width

-- places enough for any text: that of the largest list has at most 32,363 bytes
abbrev pub text_places : ℕ
text_places = 32_768

-- ---- from the bytes

-- the call for the plan of a list, with room for the largest
abbrev pub plan_of : List ℕ → Outcome
plan_of ws = planning ws (2 * max_registers) max_scratch

-- the text for the bytes of a list
unfoldable pub report : List ℕ → List ℕ
report bs = told refused_line (plan_lines (registers (list_of bs))) (plan_of (list_of bs))
