-- Words in a file: four bytes each, the lowest first.
use Rattle.std.specs.Prelude.{ℕ, ◌+◌, ◌*◌, ◌^◌, List, [], ◌∷◌, slice_index}
use Rattle.words.specs.Word.{field}
use Rattle.buffers.specs.Run.{run}

-- the bits of a byte
abbrev pub byte_bits : ℕ
byte_bits = 8

-- byte k of a word
abbrev pub byte_at : ℕ → ℕ → ℕ
byte_at k w = field (k * byte_bits) byte_bits w

abbrev pub bytes_of : ℕ → List ℕ
bytes_of w = byte_at 0 w ∷ byte_at 1 w ∷ byte_at 2 w ∷ byte_at 3 w ∷ []

abbrev pub from_bytes : ℕ → ℕ → ℕ → ℕ → ℕ
from_bytes a b c d = a + b * 2 ^ byte_bits + c * 2 ^ (2 * byte_bits) + d * 2 ^ (3 * byte_bits)

-- word k of a run of bytes
abbrev pub word_at : List ℕ → ℕ → ℕ
word_at bs k = from_bytes (slice_index bs (4 * k)) (slice_index bs (4 * k + 1)) (slice_index bs (4 * k + 2)) (slice_index bs (4 * k + 3))

-- the first k words of a run of bytes
abbrev pub to_words : List ℕ → ℕ → List ℕ
to_words bs = run (λ k. word_at bs k ∷ [])

-- the bytes of the first k words
abbrev pub to_bytes : List ℕ → ℕ → List ℕ
to_bytes ws = run (λ k. bytes_of (slice_index ws k))
