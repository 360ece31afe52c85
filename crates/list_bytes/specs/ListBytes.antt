-- The words of a delay list that came as bytes.
use Rattle.std.specs.Prelude.{ℕ, ◌+◌, ◌*◌, ◌/◌, ◌%◌, Bool, true, ◌&&◌, ◌||◌, cond, List, [], ◌≡◌, ltb, leb, eqb, length, get_or}
use Rattle.timing.specs.Limits.{max_registers, max_pairs}
use Rattle.buffers.specs.Over.{over}
use Rattle.words.specs.Bytes.{to_words}
use Rattle.list_format.specs.Lists.{place_by}

-- the words and the bytes of the longest list
abbrev pub max_words : ℕ
max_words = place_by max_registers max_pairs + 1

abbrev pub max_bytes : ℕ
max_bytes = 4 * max_words

-- more bytes than the longest list has, or not four to a word, make no words: every job refuses them by 11 at 0
unfoldable pub list_of : List ℕ → List ℕ
list_of bs = cond (ltb max_bytes (length bs)) [] (cond (eqb (length bs % 4) 0) (to_words bs (length bs / 4)) [])

-- the words of the bytes bs stand in the first places of a buffer that held `was` and holds `now`; its later places are kept
pub record LoadedAs (bs was now : List ℕ) (count : ℕ) : Type 0 where
  pub size : count ≡ length (list_of bs)
  pub words : now ≡ over (list_of bs) was

-- ---- a text in place of a list

-- a tab, a newline, a carriage return, a space, the sign of a comment, or a comma
unfoldable pub blank_byte : ℕ → Bool
blank_byte b = eqb b 9 || (eqb b 10 || (eqb b 13 || (eqb b 32 || (eqb b 35 || eqb b 44))))

-- what a text can begin with: one of these, a digit, or the first byte of a byte order mark
unfoldable pub text_byte : ℕ → Bool
text_byte b = cond (ltb b 48) (blank_byte b) (cond (ltb 57 b) (eqb b 239) true)

-- bytes that begin as a text does, and not as a list: there the seventh byte, of the first pair, is below 9, or the eighth, of a word of needs
-- or of the end word, is 160 or more
unfoldable pub looks_like_text : List ℕ → Bool
looks_like_text bs = text_byte (get_or bs 0 0) && cond (ltb (length bs) 8) true (leb 9 (get_or bs 6 0) && ltb (get_or bs 7 0) 128)
