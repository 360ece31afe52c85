-- A stored list as bytes, converted: the bytes of a list whose pairs ascend, or a line that says what is wrong.
use Rattle.std.specs.Prelude.{ℕ, List, length}
use Rattle.words.specs.Bytes.{to_bytes}
use Rattle.refusals.specs.Reply.{told}
use Rattle.converter.specs.Convert.{converting}
use Rattle.text_pieces.specs.Saying.{Saying, text, trouble, Said, SaidAs}
use Rattle.list_bytes.specs.ListBytes.{max_words, max_bytes, list_of}
use Rattle.refusal_text.specs.RefusalText.{refusal_line}

-- ---- what is made: the bytes of a list, or a line that says what is wrong

abbrev pub Product : Type 0
Product = Saying

abbrev pub list_bytes : List ℕ → Product
list_bytes = text

abbrev pub error_line : List ℕ → Product
error_line = trouble

-- the product p is returned as r, and stored in the first places of a buffer that held `was` and holds `now`
abbrev pub MadeAs : Product → List ℕ → List ℕ → Said → Type 0
MadeAs p was now r = SaidAs max_bytes p was now r

-- ---- of a stored list

abbrev pub not_converted : ℕ → ℕ → Product
not_converted number place = error_line (refusal_line number place)

-- the bytes of all words that converting stores
abbrev pub made_done : List ℕ → List ℕ → Product
made_done returned stored = list_bytes (to_bytes stored (length stored))

-- of its words
abbrev pub converted_from : List ℕ → Product
converted_from ws = told not_converted made_done (converting ws max_words)

-- of its bytes
abbrev pub converted_bytes : List ℕ → Product
converted_bytes bs = converted_from (list_of bs)
