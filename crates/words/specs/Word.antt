-- The 32-bit words of a delay list: their fields, how they are made, and the checksum.
use Rattle.std.specs.Prelude.{ℕ, ◌+◌, ◌-◌, ◌*◌, ◌/◌, ◌%◌, ◌^◌, List, [], ◌∷◌}
use Rattle.words.specs.declared.WordKind.{WordKind}
use Rattle.words.specs.declared.WordKind.TheVariants.{Head, Pair, Least, Greatest, Needs, End}

-- ---- widths, in bits

-- of a word, and of its payload: the three bits above the payload are the kind
abbrev pub word_bits : ℕ
word_bits = 32

abbrev pub payload_bits : ℕ
payload_bits = 29

-- of the count of pairs in a head word
abbrev pub count_bits : ℕ
count_bits = 12

-- of a register, and of the count of registers in a head word
abbrev pub register_bits : ℕ
register_bits = 10

-- of the hold and of the setup need of a register
abbrev pub need_bits : ℕ
need_bits = 14

-- ---- the kinds

abbrev pub kind_head : ℕ
kind_head = 1

abbrev pub kind_pair : ℕ
kind_pair = 2

abbrev pub kind_least : ℕ
kind_least = 3

abbrev pub kind_greatest : ℕ
kind_greatest = 4

abbrev pub kind_needs : ℕ
kind_needs = 5

abbrev pub kind_end : ℕ
kind_end = 7

abbrev pub kind_number : WordKind → ℕ
kind_number Head = kind_head
kind_number Pair = kind_pair
kind_number Least = kind_least
kind_number Greatest = kind_greatest
kind_number Needs = kind_needs
kind_number End = kind_end

-- ---- fields

-- the top three bits, 31 to 29
abbrev pub kind_of : ℕ → ℕ
kind_of w = w / 2 ^ payload_bits

-- the low 29 bits
abbrev pub payload_of : ℕ → ℕ
payload_of w = w % 2 ^ payload_bits

-- `width` bits from bit `from` on
abbrev pub field : ℕ → ℕ → ℕ → ℕ
field from width w = w / 2 ^ from % 2 ^ width

-- head word: the count of pairs m, the count of registers n, bits that must be zero
abbrev pub head_pairs : ℕ → ℕ
head_pairs = field 0 count_bits

abbrev pub head_registers : ℕ → ℕ
head_registers = field count_bits register_bits

abbrev pub head_spare : ℕ → ℕ
head_spare = field (count_bits + register_bits) (payload_bits - (count_bits + register_bits))

-- pair word: the capture and the launch register, bits that must be zero
abbrev pub capture_of : ℕ → ℕ
capture_of = field 0 register_bits

abbrev pub launch_of : ℕ → ℕ
launch_of = field register_bits register_bits

abbrev pub pair_spare : ℕ → ℕ
pair_spare = field (2 * register_bits) (payload_bits - 2 * register_bits)

-- word of needs: the hold and the setup of a register, a bit that must be zero
abbrev pub hold_of : ℕ → ℕ
hold_of = field 0 need_bits

abbrev pub setup_of : ℕ → ℕ
setup_of = field need_bits need_bits

abbrev pub needs_spare : ℕ → ℕ
needs_spare = field (2 * need_bits) (payload_bits - 2 * need_bits)

-- ---- words made from their fields

abbrev pub word_of : ℕ → ℕ → ℕ
word_of kind payload = kind * 2 ^ payload_bits + payload

abbrev pub head_word : ℕ → ℕ → ℕ
head_word n m = word_of kind_head (n * 2 ^ count_bits + m)

abbrev pub pair_word : ℕ → ℕ → ℕ
pair_word launch capture = word_of kind_pair (launch * 2 ^ register_bits + capture)

abbrev pub needs_word : ℕ → ℕ → ℕ
needs_word hold setup = word_of kind_needs (setup * 2 ^ need_bits + hold)

abbrev pub least_word : ℕ → ℕ
least_word = word_of kind_least

abbrev pub greatest_word : ℕ → ℕ
greatest_word = word_of kind_greatest

abbrev pub end_word : ℕ → ℕ
end_word = word_of kind_end

-- ---- the checksum

unfoldable pub total : List ℕ → ℕ
total [] = 0
total (w ∷ ws) = w + total ws

-- the words added up, carries out of the word dropped
abbrev pub wrapped_sum : List ℕ → ℕ
wrapped_sum ws = total ws % 2 ^ word_bits

-- its low 29 bits
abbrev pub checksum : List ℕ → ℕ
checksum ws = wrapped_sum ws % 2 ^ payload_bits
