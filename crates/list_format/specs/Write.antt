-- Writing a delay list from plain numbers: n, launch, capture, least and greatest of each pair, and hold and setup of each register.
use Rattle.std.specs.Prelude.{ℕ, ◌+◌, ◌*◌, ◌/◌, ◌%◌, ◌^◌, ◌<◌, ◌≤◌, Bool, true, cond, List, [], ◌∷◌, ◌++◌, ◌≡◌, ltb, eqb, length, get_or, Result, Ok, Err}
use Rattle.timing.specs.declared.Pair.{Pair}
use Rattle.timing.specs.Rules.{pair}
use Rattle.timing.specs.Limits.{max_registers, max_pairs, max_need}
use Rattle.words.specs.Word.{register_bits, payload_bits, need_bits, head_word, needs_word, pair_word, least_word, greatest_word, end_word, checksum}
use Rattle.buffers.specs.Run.{run}
use Rattle.refusals.specs.Checks.{Check, each_check}
use Rattle.refusals.specs.Reply.{Reply, refusal_of, numbers, Outcome, done, answered}
use Rattle.list_format.specs.Lists.{place_by, differ, no_needs, value_checks, order_check, NeedsIn, WrittenIn}
use Rattle.refusals.specs.declared.Refused.{Refused}
use Rattle.refusals.specs.declared.Refusal.TheVariants.{Room, Length, Size, Word}

-- m, the count of pairs that the numbers make
abbrev pub given_count : List ℕ → ℕ
given_count xs = length xs / 4

-- pair k of the numbers
abbrev pub given_pair : List ℕ → ℕ → Pair
given_pair xs k = pair (get_or xs (4 * k) 0) (get_or xs (4 * k + 1) 0) (get_or xs (4 * k + 2) 0) (get_or xs (4 * k + 3) 0)

-- hold and setup of register r, of the needs
abbrev pub given_hold : List ℕ → ℕ → ℕ
given_hold ys r = get_or ys (2 * r) 0

abbrev pub given_setup : List ℕ → ℕ → ℕ
given_setup ys r = get_or ys (2 * r + 1) 0

-- how many words of needs are written: none if all needs are 0
unfoldable pub given_needs : ℕ → List ℕ → ℕ
given_needs n ys = cond (no_needs ys) 0 n

-- ---- the words

-- the values of a pair fit their fields
pub record FitsWords (p : Pair) : Type 0 where
  pub launch : p.launch < 2 ^ register_bits
  pub capture : p.capture < 2 ^ register_bits
  pub least : p.least < 2 ^ payload_bits
  pub greatest : p.greatest < 2 ^ payload_bits

-- so do those of the first m pairs of the numbers
abbrev pub PairsFit : List ℕ → ℕ → Type 0
PairsFit xs m = (k : ℕ) → k < m → FitsWords (given_pair xs k)

-- and the needs of the first so many registers
abbrev pub NeedsFit : List ℕ → ℕ → Type 0
NeedsFit ys needs = (r : ℕ) → r < needs → (given_hold ys r < 2 ^ need_bits) × (given_setup ys r < 2 ^ need_bits)

abbrev pub three_of : Pair → List ℕ
three_of p = pair_word p.launch p.capture ∷ least_word p.least ∷ greatest_word p.greatest ∷ []

abbrev pub one_of : List ℕ → ℕ → List ℕ
one_of ys r = needs_word (given_hold ys r) (given_setup ys r) ∷ []

-- the head and the words of needs
abbrev pub open_head : ℕ → List ℕ → List ℕ → List ℕ
open_head n xs ys = head_word n (given_count xs) ∷ run (one_of ys) (given_needs n ys)

-- and the words of the first k pairs
abbrev pub open_list : ℕ → List ℕ → List ℕ → ℕ → List ℕ
open_list n xs ys k = open_head n xs ys ++ run (λ i. three_of (given_pair xs i)) k

-- the end word added
abbrev pub with_end : List ℕ → List ℕ
with_end ws = ws ++ (end_word (checksum ws) ∷ [])

-- the whole list
abbrev pub words_of : ℕ → List ℕ → List ℕ → List ℕ
words_of n xs ys = with_end (open_list n xs ys (given_count xs))

-- the place of its end word
abbrev pub end_place : ℕ → List ℕ → List ℕ → ℕ
end_place n xs ys = place_by (given_needs n ys) (given_count xs)

-- ---- the checks, in order

-- 11: the numbers are not four for each pair. 12: n or m out of range. 11: the needs are not two for each register
abbrev pub count_checks : ℕ → ℕ → ℕ → List Check
count_checks n len needs =
    (differ (len % 4) 0, Length, 0)
    ∷ (eqb n 0, Size, 0)
    ∷ (ltb max_registers n, Size, 0)
    ∷ (ltb max_pairs (len / 4), Size, 0)
    ∷ (differ needs (2 * n), Length, 0)
    ∷ []

-- 13, the place being the register
abbrev pub given_need_checks : List ℕ → ℕ → List Check
given_need_checks ys r = (ltb max_need (given_hold ys r), Word, r) ∷ (ltb max_need (given_setup ys r), Word, r) ∷ []

-- 14, 15, 16, 19, 20, the place being the pair's index; 20 where the order is asked for
abbrev pub given_checks : Bool → ℕ → List ℕ → List ℕ → ℕ → List Check
given_checks asked n xs ys k =
    value_checks n (given_hold ys (given_pair xs k).capture) (given_pair xs k) k k k ++ (order_check asked (given_pair xs) k k ∷ [])

-- all m pairs, then 2: an answer buffer with no place for the end word
abbrev pub given_pairs : Bool → ℕ → List ℕ → List ℕ → ℕ → ℕ → List Check
given_pairs asked n xs ys m room = each_check (given_checks asked n xs ys) 0 m ++ ((ltb room (place_by (given_needs n ys) m + 1), Room, 0) ∷ [])

-- all n registers, then the pairs and the room
abbrev pub given_body : Bool → ℕ → List ℕ → List ℕ → ℕ → ℕ → List Check
given_body asked n xs ys m room = each_check (given_need_checks ys) 0 n ++ given_pairs asked n xs ys m room

abbrev pub write_checks : Bool → ℕ → List ℕ → List ℕ → ℕ → List Check
write_checks asked n xs ys room = count_checks n (length xs) (length ys) ++ given_body asked n xs ys (given_count xs) room

-- what the checks but 20 leave: as many numbers as four a pair and two a register, counts and values in range
pub record GivenIn (n : ℕ) (xs ys : List ℕ) : Type 0 where
  pub size : length xs ≡ 4 * given_count xs
  pub some : 0 < n
  pub most : n ≤ max_registers
  pub few : given_count xs ≤ max_pairs
  pub two : length ys ≡ 2 * n
  pub needs : (r : ℕ) → r < n → NeedsIn (given_hold ys r) (given_setup ys r)
  pub values : (k : ℕ) → k < given_count xs → WrittenIn n (given_hold ys (given_pair xs k).capture) (given_pair xs k)

-- writing into `room` places, with the order asked for or not: the count of words is returned, and that many places are filled
unfoldable pub writing_by : Bool → ℕ → List ℕ → List ℕ → ℕ → Outcome
writing_by asked n xs ys room = answered (write_checks asked n xs ys room) (done ((end_place n xs ys + 1) ∷ []) (words_of n xs ys))

abbrev pub writing : ℕ → List ℕ → List ℕ → ℕ → Outcome
writing = writing_by true

-- the count of words, or a refusal with its place
abbrev pub Writing : Type 0
Writing = Result ℕ Refused

-- the number and values of each case of the answer
unfoldable pub write_reply : Writing → Reply
write_reply (Ok count) = numbers (count ∷ [])
write_reply (Err r) = refusal_of r
