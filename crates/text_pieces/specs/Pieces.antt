-- Text as bytes: letters, decimal numbers, and a piece of text stored in a buffer.
use Prim.Native.Char.{code}
use Rattle.std.specs.Prelude.{ℕ, zero, suc, ◌+◌, ◌/◌, ◌%◌, ◌≤◌, cond, List, [], ◌∷◌, ◌++◌, ◌≡◌, ltb, ℤ, pos, negsuc, length, take}
use Prim.Native.String.{String, [] as ended, ◌∷◌ as ◌then◌}
use Rattle.buffers.specs.Over.{over}

-- the bytes of a text in ASCII
abbrev pub letters : String → List ℕ
letters ended = []
letters (c then s) = code c ∷ letters s

-- the byte of a digit, from that of 0 to that of 9
abbrev pub zero_byte : ℕ
zero_byte = 48

abbrev pub nine_byte : ℕ
nine_byte = 57

abbrev pub digit : ℕ → ℕ
digit d = zero_byte + d

-- n in decimal, in at most k digits
unfoldable pub decimal_in : ℕ → ℕ → List ℕ
decimal_in zero n = []
decimal_in (suc k) n =
    let front : List ℕ = decimal_in k (n / 10) in
    cond (ltb n 10) (digit n ∷ []) (front ++ (digit (n % 10) ∷ []))

-- n in decimal, with no zeros in front; n + 1 digits are always enough
unfoldable pub decimal : ℕ → List ℕ
decimal n = decimal_in (suc n) n

-- the byte of a minus sign
abbrev pub minus : ℕ
minus = 45

-- a number, and the byte that ends it
abbrev pub number : ℕ → ℕ → List ℕ
number n end = decimal n ++ (end ∷ [])

-- a number with sign, and the byte that ends it
unfoldable pub signed : ℤ → ℕ → List ℕ
signed (pos n) end = number n end
signed (negsuc n) end = minus ∷ number (suc n) end

-- a name, its number, and the byte that ends it
abbrev pub named : List ℕ → ℕ → ℕ → List ℕ
named name n end = name ++ number n end

abbrev pub space : ℕ
space = 32

abbrev pub newline : ℕ
newline = 10

-- the number and the place of a refusal, and the byte that ends them
unfoldable pub refused_at : ℕ → ℕ → ℕ → List ℕ
refused_at number place end = named (letters "refused ") number space ++ named (letters "at ") place end

-- ---- how long pieces can be

-- the digits of a number of 64 bits
abbrev pub max_digits : ℕ
max_digits = 20

-- a number, and the byte that ends it
abbrev pub number_width : ℕ
number_width = max_digits + 1

-- with a sign
abbrev pub signed_width : ℕ
signed_width = 1 + number_width

-- "refused " and "at " with their numbers
abbrev pub refused_width : ℕ
refused_width = 8 + number_width + (3 + number_width)

-- ---- a piece of text stored

-- a piece of text of at most w bytes was stored from `at` on, in a buffer that held `was` and holds `now`; the place after it is `next`
pub record Put (w : ℕ) (piece was : List ℕ) (at : ℕ) (now : List ℕ) (next : ℕ) : Type 0 where
  pub most : length piece ≤ w
  pub room : at + length piece ≤ length was
  pub after : next ≡ at + length piece
  pub is : now ≡ over (take at was ++ piece) was
