-- A word made from its fields has them; a word is made of its fields; the wrapped sum, one word longer.
use Rattle.std.proofs.Common.{◌≡◌, ℕ, zero, suc, ◌+◌, ◌%◌, ◌^◌, ◌<◌, List, [], ◌∷◌, length, get_or, take, le_of_suc-le-suc}
use Rattle.std.proofs.Common.{not-suc-le-zero, add-one, arith}
use native.Mathlib.Nat.{mod-add-mod}
use Rattle.words.specs.Word.{payload_bits, count_bits, register_bits, word_bits, kind_head, kind_pair, kind_of, payload_of, head_pairs, head_registers}
use Rattle.words.specs.Word.{head_spare, capture_of, launch_of, pair_spare, word_of, head_word, pair_word, total, wrapped_sum}
use Rattle.words.specs.Word.{need_bits, kind_needs, hold_of, setup_of, needs_spare, needs_word}

-- ---- any kind of word

pub kind-of-word : (kind payload : ℕ) → payload < 2 ^ payload_bits → kind_of (word_of kind payload) ≡ kind
kind-of-word kind payload h = omega arith

pub payload-of-word : (kind payload : ℕ) → payload < 2 ^ payload_bits → payload_of (word_of kind payload) ≡ payload
payload-of-word kind payload h = omega arith

pub word-of-parts : (w : ℕ) → word_of (kind_of w) (payload_of w) ≡ w
word-of-parts w = omega arith

-- ---- the head and a pair word

pub record HeadIs (n m w : ℕ) : Type 0 where
  pub kind : kind_of w ≡ kind_head
  pub spare : head_spare w ≡ 0
  pub registers : head_registers w ≡ n
  pub pairs : head_pairs w ≡ m

pub head-of-word : (n m : ℕ) → n < 2 ^ register_bits → m < 2 ^ count_bits → HeadIs n m (head_word n m)
head-of-word n m hn hm = omega arith

pub word-of-head : (w : ℕ) → kind_of w ≡ kind_head → head_spare w ≡ 0 → head_word (head_registers w) (head_pairs w) ≡ w
word-of-head w k s = omega arith

pub record PairWordIs (launch capture w : ℕ) : Type 0 where
  pub kind : kind_of w ≡ kind_pair
  pub spare : pair_spare w ≡ 0
  pub launched : launch_of w ≡ launch
  pub captured : capture_of w ≡ capture

pub pair-of-word : (a b : ℕ) → a < 2 ^ register_bits → b < 2 ^ register_bits → PairWordIs a b (pair_word a b)
pair-of-word a b ha hb = omega arith

pub word-of-pair : (w : ℕ) → kind_of w ≡ kind_pair → pair_spare w ≡ 0 → pair_word (launch_of w) (capture_of w) ≡ w
word-of-pair w k s = omega arith

-- ---- a word of needs

pub record NeedsWordIs (hold setup w : ℕ) : Type 0 where
  pub kind : kind_of w ≡ kind_needs
  pub spare : needs_spare w ≡ 0
  pub holds : hold_of w ≡ hold
  pub setups : setup_of w ≡ setup

pub needs-of-word : (h s : ℕ) → h < 2 ^ need_bits → s < 2 ^ need_bits → NeedsWordIs h s (needs_word h s)
needs-of-word h s hh hs = omega arith

pub word-of-needs : (w : ℕ) → kind_of w ≡ kind_needs → needs_spare w ≡ 0 → needs_word (hold_of w) (setup_of w) ≡ w
word-of-needs w k s = omega arith

-- ---- the sum

total-suc : (ws : List ℕ) (i : ℕ) → i < length ws → total (take (suc i) ws) ≡ total (take i ws) + get_or ws i 0
unfolding total
total-suc [] i h = absurd (not-suc-le-zero h)
total-suc (w ∷ ws) zero h = omega arith
total-suc (w ∷ ws) (suc i) h = omega (arith, total-suc ws i (le_of_suc-le-suc h))

pub sum_more : (ws : List ℕ) (i a : ℕ) → i < length ws → a ≡ wrapped_sum (take i ws)
    → (a + get_or ws i 0) % 2 ^ word_bits ≡ wrapped_sum (take (i + 1) ws)
sum_more ws i a h e = rw (e, add-one, total-suc ws i h, mod-add-mod)
