-- Choices as marks; the four choices of a launch and a capture, each by the number of its row, and which of them break a rule.
use Rattle.std.specs.Prelude.{Bool, true, false, ℕ, ◌+◌, ◌-◌, ◌/◌, ◌%◌, eqb}
use Rattle.timing.specs.declared.Pair.{Pair}
use Rattle.split_laws.specs.Split.{broken}

-- a choice as a mark; a mark of 0 says that a register's choice is not known
abbrev pub early : ℕ
early = 1

abbrev pub late : ℕ
late = 2

abbrev pub mark : Bool → ℕ
mark false = early
mark true = late

abbrev pub is_late : ℕ → Bool
is_late x = eqb x late

-- the other choice: late for early, early for late
abbrev pub opposite : ℕ → ℕ
opposite x = early + late - x

-- the choices of row k: rows are early-early 0, early-late 1, late-early 2, late-late 3
abbrev pub row_launch : ℕ → ℕ
row_launch k = 1 + k / 2

abbrev pub row_capture : ℕ → ℕ
row_capture k = 1 + k % 2

-- the choice of row k breaks a rule of the pair, at period t and offset s
abbrev pub broken_row : ℕ → ℕ → Pair → ℕ → Bool
broken_row t s p k = broken t s p (is_late (row_launch k)) (is_late (row_capture k))

-- as it is recorded: 1 or 0
abbrev pub flag : Bool → ℕ
flag false = 0
flag true = 1

abbrev pub flag_at : ℕ → ℕ → Pair → ℕ → ℕ
flag_at t s p k = flag (broken_row t s p k)
