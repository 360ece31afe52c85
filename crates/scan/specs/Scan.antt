-- Decimal numbers in a text, read byte by byte. Spaces, commas, tabs and carriage returns stand between them; from `#` to the end of its
-- line is a comment; a byte order mark at the start is skipped; the last newline may be missing.
-- In the lines of a delay list the first line with a number has one, the count of registers, or two, that and the count of pairs. Then
-- there may be lines of two, the needs of a register: hold and setup. Each later one has four, those of a pair. Lines without a number
-- are skipped.
use Rattle.std.specs.Prelude.{Option, None, Some, is_some, Result, Ok, Err, slice_get}
use Rattle.std.specs.Prelude.{ℕ, suc, ◌+◌, ◌-◌, ◌*◌, ◌≤◌, ◌<◌, Bool, false, true, cond, ◌&&◌, ◌||◌, List, [], ◌∷◌, ◌++◌, ◌≡◌}
use Rattle.std.specs.Prelude.{ltb, leb, eqb, length, set, get_or, take, drop}
use Rattle.timing.specs.Limits.{max_registers, max_pairs}
use Rattle.buffers.specs.Over.{over}
use Rattle.text_pieces.specs.Pieces.{zero_byte, nine_byte, space, newline}
use Rattle.scan.specs.declared.State.{State}
use Rattle.scan.specs.declared.Place.{Place}
use Rattle.scan.specs.declared.Numbers.{Numbers}
use Rattle.scan.specs.declared.FaultAt.{FaultAt}
use Rattle.scan.specs.declared.TextFault.{TextFault}
use Rattle.scan.specs.declared.TextFault.TheVariants.{BadByte, LargeNumber, BadFirstLine, BadLine, TooManyNumbers, NoNumber, TooLong, OtherPairs}

-- the most numbers that a text may hold: the count of registers, two for each register, and four for each pair
abbrev pub max_numbers : ℕ
max_numbers = 4 * max_pairs + 2 * max_registers + 1

-- the longest text
abbrev pub text_bytes : ℕ
text_bytes = 131_072

-- the largest number that a text may hold: 32 bits
abbrev pub max_value : ℕ
max_value = 4_294_967_295

-- ---- one byte

-- what stands between numbers beside newlines: a space, a comma, a tab, a carriage return
unfoldable pub is_blank : ℕ → Bool
is_blank byte = eqb byte space || (eqb byte 44 || (eqb byte 9 || eqb byte 13))

-- `#`
abbrev pub comment_byte : ℕ
comment_byte = 35

abbrev pub start : Bool → State
start lined =
    record {
      lined = lined;
      first = 0;
      needs = 0;
      count = 0;
      promised = 0;
      inside = false;
      value = 0;
      comment = false;
      fault = None;
    }

-- something is wrong; nothing that follows changes that
abbrev pub with_fault : State → Option TextFault → State
with_fault s fault =
    record {
      lined = s.lined;
      first = s.first;
      needs = s.needs;
      count = s.count;
      promised = s.promised;
      inside = s.inside;
      value = s.value;
      comment = s.comment;
      fault = fault;
    }

abbrev pub failed : State → TextFault → State
failed s fault = with_fault s (Some fault)

-- in a number, with its value so far
abbrev pub valued : State → ℕ → State
valued s value =
    record {
      lined = s.lined;
      first = s.first;
      needs = s.needs;
      count = s.count;
      promised = s.promised;
      inside = true;
      value = value;
      comment = s.comment;
      fault = None;
    }

-- a digit more; no number has more than 32 bits
unfoldable pub with_digit : State → ℕ → State
with_digit s d = cond (ltb max_value (10 * s.value + d)) (failed s LargeNumber) (valued s (10 * s.value + d))

-- whether a number that ends is the second one of a list's first line: the count of pairs
unfoldable pub is_second : State → Bool
is_second s = s.lined && (eqb s.first 0 && (eqb s.count 1 && eqb s.promised 0))

-- no number has begun; `count` have ended, and `promised` are promised
abbrev pub outside : State → ℕ → ℕ → State
outside s count promised =
    record {
      lined = s.lined;
      first = s.first;
      needs = s.needs;
      count = count;
      promised = promised;
      inside = false;
      value = 0;
      comment = s.comment;
      fault = None;
    }

-- the end of a number, if one has begun. The count of pairs is not one of the numbers: it promises how many there are
unfoldable pub number_ended : State → State
number_ended s =
    cond s.inside
    (cond (is_second s) (outside s s.count (4 * s.value + 1))
    (cond (ltb s.count max_numbers) (outside s (s.count + 1) s.promised) (failed s TooManyNumbers)))
    s

-- At the end of a line `first` numbers stand in the lines before, of which `needs` are needs, and `count` in all.

-- whether the line holds the needs of a register: two numbers, and before it only the first line and lines of needs
unfoldable pub need_line : Bool → ℕ → ℕ → ℕ → Bool
need_line lined first needs count = lined && (eqb first (needs + 1) && eqb count (first + 2))

-- how many numbers are needs then
unfoldable pub needs_then : Bool → ℕ → ℕ → ℕ → ℕ
needs_then lined first needs count = cond (need_line lined first needs count) (needs + 2) needs

-- what is wrong with the line: not one number in the first line of a list, or two; or neither the two needs of a register, before the
-- pairs, nor the four of a pair in a later one
unfoldable pub line_fault : Bool → ℕ → ℕ → ℕ → Option TextFault
line_fault lined first needs count =
    cond lined
    (cond (eqb count first) None
    (cond (eqb first 0) (cond (eqb count 1) None (Some BadFirstLine))
    (cond (eqb count (first + 4)) None (cond (need_line lined first needs count) None (Some BadLine)))))
    None

-- the next line
abbrev pub next_line : State → State
next_line s =
    record {
      lined = s.lined;
      first = s.count;
      needs = needs_then s.lined s.first s.needs s.count;
      count = s.count;
      promised = s.promised;
      inside = s.inside;
      value = s.value;
      comment = false;
      fault = None;
    }

-- the end of a line
unfoldable pub line_ended : State → State
line_ended s =
    let wrong : Option TextFault = line_fault s.lined s.first s.needs s.count in
    cond (is_some s.fault) s (cond (is_some wrong) (with_fault s wrong) (next_line s))

-- a comment begins
abbrev pub commented : State → State
commented s =
    record {
      lined = s.lined;
      first = s.first;
      needs = s.needs;
      count = s.count;
      promised = s.promised;
      inside = s.inside;
      value = s.value;
      comment = true;
      fault = s.fault;
    }

-- a byte in a line, outside comments: a digit, a blank or the start of a comment
unfoldable pub step_in_line : State → ℕ → State
step_in_line s byte =
    cond (is_blank byte) (number_ended s)
    (cond (eqb byte comment_byte) (commented (number_ended s))
    (cond (ltb byte zero_byte) (failed s BadByte) (cond (ltb nine_byte byte) (failed s BadByte) (with_digit s (byte - zero_byte)))))

-- a byte more
unfoldable pub step : State → ℕ → State
step s byte =
    cond (is_some s.fault) s
    (cond (eqb byte newline) (line_ended (number_ended s)) (cond s.comment s (step_in_line s byte)))

-- what is wrong with the end of the text: no number at all, or not as many pairs as the first line says; needs are not counted
unfoldable pub end_fault : State → Option TextFault
end_fault s =
    cond (eqb s.count 0) (Some NoNumber)
    (cond (eqb s.promised 0) None (cond (eqb (s.count - s.needs) s.promised) None (Some OtherPairs)))

-- the end of the text, after its last line
unfoldable pub at_end : State → State
at_end s = cond (is_some s.fault) s (with_fault s (end_fault s))

-- the end of the text, which ends its last number and its last line
unfoldable pub finished : State → State
finished s = cond (is_some s.fault) s (at_end (line_ended (number_ended s)))

-- the number that ended on the way from one state to the next, if any
unfoldable pub kept : State → State → List ℕ
kept s t = cond (ltb s.count t.count) (s.value ∷ []) []

-- and the places for numbers then
unfoldable pub kept_in : State → State → List ℕ → List ℕ
kept_in s t places = cond (ltb s.count t.count) (set places s.count s.value) places

-- ---- the text

-- after a run of bytes
unfoldable pub after : State → List ℕ → State
after s [] = s
after s (b ∷ bs) = after (step s b) bs

-- the numbers that they end
unfoldable pub ended : State → List ℕ → List ℕ
ended s [] = []
ended s (b ∷ bs) = kept s (step s b) ++ ended (step s b) bs

-- after all bytes of a text
abbrev pub last : Bool → List ℕ → State
last lined ts = finished (after (start lined) ts)

-- its numbers
abbrev pub scanned_numbers : Bool → List ℕ → List ℕ
scanned_numbers lined ts = ended (start lined) ts ++ kept (after (start lined) ts) (last lined ts)

-- ---- where a byte stands

-- line and column count from 1; a newline is the last byte of its line
abbrev pub first_place : Place
first_place = record { line = 1; column = 1 }

unfoldable pub next_place : Place → ℕ → Place
next_place p byte = cond (eqb byte newline) (record { line = p.line + 1; column = 1 }) (record { line = p.line; column = p.column + 1 })

-- the place after a run of bytes
unfoldable pub place_after : Place → List ℕ → Place
place_after p [] = p
place_after p (b ∷ bs) = place_after (next_place p b) bs

-- the place of byte i
abbrev pub place_of : List ℕ → ℕ → Place
place_of ts i = place_after first_place (take i ts)

-- whether something is wrong, or `enough` numbers have ended
unfoldable pub stops : ℕ → State → Bool
stops enough s = cond (is_some s.fault) true (leb enough s.count)

-- how many bytes are read before one with which the reading stops; all, if there is none
unfoldable pub goes_to : ℕ → State → List ℕ → ℕ
goes_to enough s [] = 0
goes_to enough s (b ∷ bs) =
    let t : State = step s b in
    cond (stops enough t) 0 (suc (goes_to enough t bs))

-- the index of the byte at fault, that of the end of the text being its length: no text has more than max_numbers numbers
abbrev pub fault_index : Bool → List ℕ → ℕ
fault_index lined ts = goes_to (max_numbers + 1) (start lined) ts

-- ---- the whole text

-- what reading a text comes to: the count of the numbers and of the needs among them, or what is wrong and where
abbrev pub Scanned : Type 0
Scanned = Result Numbers FaultAt

-- with the byte that stands there, if any: none stands at the end of the text
abbrev pub faulty_at : TextFault → List ℕ → ℕ → FaultAt
faulty_at fault ts i = record { fault = fault; place = place_of ts i; byte = slice_get ts i }

abbrev pub numbers_of : State → Numbers
numbers_of s = record { count = s.count; needs = s.needs }

-- a text that comes to such a state
unfoldable pub result_with : Option TextFault → State → List ℕ → ℕ → Scanned
result_with None s ts i = Ok (numbers_of s)
result_with (Some fault) s ts i = Err (faulty_at fault ts i)

abbrev pub result_of : Bool → List ℕ → Scanned
result_of lined ts = result_with (last lined ts).fault (last lined ts) ts (fault_index lined ts)

-- the bytes of a byte order mark at the start
unfoldable pub mark_size : List ℕ → ℕ
mark_size bs = cond (eqb (get_or bs 0 0) 239 && (eqb (get_or bs 1 0) 187 && eqb (get_or bs 2 0) 191)) 3 0

-- the text after it
abbrev pub without_mark : List ℕ → List ℕ
without_mark bs = drop (mark_size bs) bs

-- the line of a list in which `enough` numbers have ended
abbrev pub line_in : ℕ → List ℕ → ℕ
line_in enough ts = (place_of ts (goes_to enough (start true) ts)).line

-- the line in which number k of a text ends, counted from 1
abbrev pub line_of : ℕ → List ℕ → ℕ
line_of k bs = line_in k (without_mark bs)

-- of a text that is too long, the mark counted, the first byte too many is at fault
unfoldable pub scanned : Bool → List ℕ → Scanned
scanned lined bs = cond (ltb text_bytes (length bs)) (Err (faulty_at TooLong bs text_bytes)) (result_of lined (without_mark bs))

-- the numbers that are stored: none of a text that is too long
unfoldable pub stored_of : Bool → List ℕ → List ℕ
stored_of lined bs = cond (ltb text_bytes (length bs)) [] (scanned_numbers lined (without_mark bs))

-- as many numbers are stored as are said, at least one beside the needs
pub record Counted (xs : List ℕ) (count needs : ℕ) : Type 0 where
  pub size : count ≡ length xs
  pub some : needs < count
  pub most : count ≤ max_numbers

-- a text ts after its mark was read, into places that held `was` and hold `now`
pub record TextAs (lined : Bool) (ts was now : List ℕ) (r : Scanned) : Type 0 where
  pub answer : r ≡ result_of lined ts
  pub stored : now ≡ over (scanned_numbers lined ts) was
  pub counted : (n : Numbers) → r ≡ Ok n → Counted (scanned_numbers lined ts) n.count n.needs

-- a whole text bs was
pub record ScanAs (lined : Bool) (bs was now : List ℕ) (r : Scanned) : Type 0 where
  pub answer : r ≡ scanned lined bs
  pub stored : now ≡ over (stored_of lined bs) was
  pub counted : (n : Numbers) → r ≡ Ok n → Counted (stored_of lined bs) n.count n.needs

-- ---- what holds on the way

-- a state that a text can lead to
pub record StateIn (s : State) : Type 0 where
  pub needs : s.needs ≤ s.first - 1
  pub first : s.first ≤ s.count
  pub count : s.count ≤ max_numbers

-- the bytes bs were read, into places that held `was` and hold `now`
pub record ScannedTo (lined : Bool) (bs was now : List ℕ) (s : State) : Type 0 where
  pub state : s ≡ after (start lined) bs
  pub within : StateIn s
  pub size : s.count ≡ length (ended (start lined) bs)
  pub places : now ≡ over (ended (start lined) bs) was

-- a place in a text that is not too long
pub record PlaceIn (p : Place) : Type 0 where
  pub line : p.line ≤ text_bytes
  pub column : p.column ≤ text_bytes

-- reading stops before the end of the text, or at it
pub record GoesTo (enough : ℕ) (lined : Bool) (ts : List ℕ) (i : ℕ) : Type 0 where
  pub index : i ≡ goes_to enough (start lined) ts
  pub bound : i ≤ length ts
