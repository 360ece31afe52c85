-- What is printed for the free schedule of a list, and for a split at a period and an offset.
use Rattle.std.specs.Prelude.{ℕ, ◌+◌, ◌*◌, ◌||◌, cond, List, ◌++◌, ltb, eqb, get_or}
use Rattle.timing.specs.Limits.{max_registers, max_period, max_scratch}
use Rattle.buffers.specs.Run.{run}
use Rattle.refusals.specs.Reply.{told}
use Rattle.list_format.specs.Lists.{registers}
use Rattle.free_schedule.specs.FreeCall.{freeing}
use Rattle.split.specs.Splitting.{splitting}
use Rattle.text_pieces.specs.Pieces.{letters, number, named, space, newline, number_width}
use Rattle.text_pieces.specs.Saying.{Saying, text, trouble}
use Rattle.refusal_text.specs.RefusalText.{line_width, caused_line, refused_saying}
use Rattle.list_bytes.specs.ListBytes.{list_of}

-- a register and its timing
abbrev pub timing_line : List ℕ → ℕ → List ℕ
timing_line xs r = number r space ++ number (get_or xs r 0) newline

-- a line for each of n registers
unfoldable pub timing_lines : ℕ → List ℕ → List ℕ
timing_lines n xs = run (timing_line xs) n

-- ---- how long a text can be

-- the line of a register
abbrev pub timing_width : ℕ
timing_width = 2 * number_width

-- "common " and "free " with their numbers
abbrev pub free_width : ℕ
free_width = 7 + number_width + (5 + number_width)

-- "split", as a line
abbrev pub split_width : ℕ
split_width = 6

-- places enough for any of these texts: a line for each register, and before them the longest line there is
abbrev pub schedule_places : ℕ
schedule_places = timing_width * max_registers + line_width

-- ---- the free schedule

unfoldable pub free_line : ℕ → ℕ → List ℕ
free_line common free = named (letters "common ") common space ++ named (letters "free ") free newline

-- the two periods, and a line for each register
abbrev pub free_done : ℕ → List ℕ → List ℕ → List ℕ
free_done n returned stored = free_line (get_or returned 0 0) (get_or returned 1 0) ++ timing_lines n stored

abbrev pub free_said : ℕ → List ℕ → List ℕ → Saying
free_said n returned stored = text (free_done n returned stored)

-- what is said for the bytes of a list
abbrev pub free_text : List ℕ → Saying
free_text bs = told refused_saying (free_said (registers (list_of bs))) (freeing (list_of bs) max_registers)

-- ---- a split

-- 0 is returned where there is none; else a line for each register
abbrev pub split_done : ℕ → List ℕ → List ℕ → List ℕ
split_done n returned stored = cond (eqb (get_or returned 0 0) 0) (letters "no split\n") (letters "split\n" ++ timing_lines n stored)

abbrev pub split_said : ℕ → List ℕ → List ℕ → Saying
split_said n returned stored = text (split_done n returned stored)

-- what a refusal is caused by: of 3, the period (31) or the offset (32)
unfoldable pub split_cause : ℕ → ℕ → ℕ
split_cause period number = cond (eqb number 3) (cond (eqb period 0 || ltb max_period period) 31 32) number

abbrev pub split_refused : ℕ → ℕ → ℕ → Saying
split_refused period number place = trouble (caused_line number place (split_cause period number))

-- what is said for the bytes of a list
abbrev pub split_text : List ℕ → ℕ → ℕ → Saying
split_text bs period offset =
    told (split_refused period) (split_said (registers (list_of bs))) (splitting (list_of bs) period offset max_registers max_scratch)
