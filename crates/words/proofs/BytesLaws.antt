-- Words to bytes and back, and bytes to words and back.
use Rattle.std.proofs.Common.{◌≡◌, ℕ, ◌+◌, ◌*◌, ◌/◌, ◌%◌, ◌^◌, ◌<◌, List, [], ◌∷◌, length, get_or, take, drop, sym, refl, ap, ◌∙◌, one-mul}
use Rattle.std.proofs.Common.{div-add-mod', div-one, arith}
use native.Mathlib.Nat.{div-div-eq-div-mul}
use Rattle.buffers.proofs.RunLaws.{run_length, run_at, run_is, take-stretch}
use Rattle.words.specs.Word.{word_bits}
use Rattle.words.specs.Bytes.{byte_bits, byte_at, bytes_of, from_bytes, word_at, to_words, to_bytes}

-- one word and its four bytes
word-of-bytes : (w : ℕ) → w < 2 ^ word_bits → from_bytes (byte_at 0 w) (byte_at 1 w) (byte_at 2 w) (byte_at 3 w) ≡ w
word-of-bytes w h =
    let a : ℕ = w / 2 ^ byte_bits in
    let b : ℕ = a / 2 ^ byte_bits in
    let c : ℕ = b / 2 ^ byte_bits in
    let b-is : w / 2 ^ (2 * byte_bits) ≡ b = sym (div-div-eq-div-mul w (2 ^ byte_bits) (2 ^ byte_bits)) in
    let c-is : w / 2 ^ (3 * byte_bits) ≡ c = sym (div-div-eq-div-mul w (2 ^ (2 * byte_bits)) (2 ^ byte_bits)) ∙ ap (λ x. x / 2 ^ byte_bits) b-is in
    rw (div-one, b-is, c-is)
    (sum w a b c (w % 2 ^ byte_bits) (a % 2 ^ byte_bits) (b % 2 ^ byte_bits) (c % 2 ^ byte_bits)
    (div-add-mod' w (2 ^ byte_bits)) (div-add-mod' a (2 ^ byte_bits)) (div-add-mod' b (2 ^ byte_bits)) (omega arith))
  where
    sum : (w a b c r s t u : ℕ) → a * 2 ^ byte_bits + r ≡ w → b * 2 ^ byte_bits + s ≡ a → c * 2 ^ byte_bits + t ≡ b → u ≡ c
        → r + s * 2 ^ byte_bits + t * 2 ^ (2 * byte_bits) + u * 2 ^ (3 * byte_bits) ≡ w
    sum w a b c r s t u d e f g = omega arith

module _ (a b c d : ℕ) (ha : a < 2 ^ byte_bits) (hb : b < 2 ^ byte_bits) (hc : c < 2 ^ byte_bits) (hd : d < 2 ^ byte_bits) where
  byte-0 : byte_at 0 (from_bytes a b c d) ≡ a
  byte-0 = omega arith

  byte-1 : byte_at 1 (from_bytes a b c d) ≡ b
  byte-1 = omega arith

  byte-2 : byte_at 2 (from_bytes a b c d) ≡ c
  byte-2 = omega arith

  byte-3 : byte_at 3 (from_bytes a b c d) ≡ d
  byte-3 = omega arith

  bytes-of-word : bytes_of (from_bytes a b c d) ≡ a ∷ b ∷ c ∷ d ∷ []
  bytes-of-word = rw (byte-0, byte-1, byte-2, byte-3)

-- how many they are
pub words_size : (bs : List ℕ) (k : ℕ) → length (to_words bs k) ≡ k
words_size bs k = run_length (λ i. word_at bs i ∷ []) 1 (λ i. refl) k ∙ one-mul k

pub bytes-size : (ws : List ℕ) (k : ℕ) → length (to_bytes ws k) ≡ 4 * k
bytes-size ws k = run_length (λ i. bytes_of (get_or ws i 0)) 4 (λ i. refl) k

-- all words
pub words_back : (ws : List ℕ) → ((k : ℕ) → get_or ws k 0 < 2 ^ word_bits) → to_words (to_bytes ws (length ws)) (length ws) ≡ ws
words_back ws fits = run_is (λ k. word_at (to_bytes ws (length ws)) k ∷ []) 1 (λ k. refl) ws (length ws) each (omega arith)
  where
    byte : (k : ℕ) → k < length ws → (j : ℕ) → j < 4 → get_or (to_bytes ws (length ws)) (4 * k + j) 0 ≡ get_or (bytes_of (get_or ws k 0)) j 0
    byte k h j l = run_at (λ i. bytes_of (get_or ws i 0)) 4 (λ i. refl) (length ws) k j h l

    each : (k : ℕ) → k < length ws → word_at (to_bytes ws (length ws)) k ∷ [] ≡ take 1 (drop (1 * k) ws)
    each k h =
        let z : 4 * k ≡ 4 * k + 0 = omega arith in
        let one : 1 * k ≡ k = omega arith in
        rw (
          byte k h 1 (omega arith),
          byte k h 2 (omega arith),
          byte k h 3 (omega arith),
          z,
          byte k h 0 (omega arith),
          word-of-bytes (get_or ws k 0) (fits k),
          one,
          take-stretch 1 ws k (omega arith),
        )

-- all bytes, four for each word
pub bytes_back : (bs : List ℕ) (m : ℕ) → length bs ≡ 4 * m → ((i : ℕ) → get_or bs i 0 < 2 ^ byte_bits) → to_bytes (to_words bs m) m ≡ bs
bytes_back bs m size fits = run_is (λ k. bytes_of (get_or (to_words bs m) k 0)) 4 (λ k. refl) bs m each size
  where
    word : (k : ℕ) → k < m → get_or (to_words bs m) k 0 ≡ word_at bs k
    word k h =
        let z : 1 * k + 0 ≡ k = omega arith in
        rw z at (run_at (λ i. word_at bs i ∷ []) 1 (λ i. refl) m k 0 h (omega arith))

    each : (k : ℕ) → k < m → bytes_of (get_or (to_words bs m) k 0) ≡ take 4 (drop (4 * k) bs)
    each k h =
        let third : 4 * k + 1 + 1 ≡ 4 * k + 2 = omega arith in
        let fourth : 4 * k + 2 + 1 ≡ 4 * k + 3 = omega arith in
        ap bytes_of (word k h) ∙ bytes-of-word _ _ _ _ (fits (4 * k)) (fits (4 * k + 1)) (fits (4 * k + 2)) (fits (4 * k + 3))
        ∙ sym (take-stretch 4 bs (4 * k) (omega arith) ∙ rw (third, fourth))
