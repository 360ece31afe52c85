-- The limits of a delay list and of a call, each named once. Times are in picoseconds.
use Rattle.std.specs.Prelude.{ℕ, ◌+◌, ◌-◌, ◌*◌}

-- registers, 1 to this many
abbrev pub max_registers : ℕ
max_registers = 512

-- pairs, 0 to this many
abbrev pub max_pairs : ℕ
max_pairs = 2_048

-- least and greatest delay, 0 to this
abbrev pub max_delay : ℕ
max_delay = 1_000_000

-- setup and hold need of a register, 0 to this
abbrev pub max_need : ℕ
max_need = 9_999

-- period, 1 to this: the greatest delay with the longest setup
abbrev pub max_period : ℕ
max_period = max_delay + max_need

-- offset, 0 to this
abbrev pub max_offset : ℕ
max_offset = max_period

-- timing of a register, 0 to this: each register but one may be a longest period later than another
abbrev pub max_timing : ℕ
max_timing = (max_registers - 1) * max_period

-- the places of scratch for one register, and for one pair
abbrev pub per_register : ℕ
per_register = 6

abbrev pub per_pair : ℕ
per_pair = 4

-- the places of scratch that a split or a plan of n registers and m pairs takes: the first 6n serve the registers,
-- the rest the pairs
abbrev pub scratch_places : ℕ → ℕ → ℕ
scratch_places n m = per_register * n + per_pair * m

-- those of the largest list
abbrev pub max_scratch : ℕ
max_scratch = scratch_places max_registers max_pairs
