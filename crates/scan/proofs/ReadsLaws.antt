-- What decimal numbers with a space or a newline after each are read to: the numbers themselves, by induction on their digits.
use Prim.Native.Nat.{ℕ, zero, suc, ◌+◌, ◌-◌, ◌*◌, ◌/◌, ◌%◌, ◌≤◌, ◌<◌}
use mathlib.Core.Bool.{Bool, true, false}
use mathlib.Core.List.{List, [], ◌∷◌, ◌++◌, append-nil}
use mathlib.Core.Path.{◌≡◌, refl, sym, ◌∙◌, ap}
use native.Mathlib.Omega.{arith}
use lib.Dec.{ltb}
use Rattle.std.specs.Prelude.{None}
use borrow.Author.Tests.{ltb-true, ltb-false, lt-ltb, le-ltb, ne_eqb}
use Rattle.text_pieces.specs.Pieces.{zero_byte, digit, decimal, number, space, newline}
use Rattle.text_pieces.proofs.DecimalLaws.{decimal-one, decimal-more}
use Rattle.scan.specs.declared.State.{State}
use Rattle.scan.specs.Scan.{max_numbers, max_value, is_blank, with_digit, is_second, number_ended, line_fault, line_ended, step}
use Rattle.scan.specs.Scan.{need_line, needs_then, kept, after, ended}
use Rattle.scan.proofs.CaseLaws.{digit-more, ended-second, ended-next, line-next, in-blank, in-digit, step-newline, step_line}
use Rattle.scan.proofs.ScanLaws.{after-append, ended-append}

-- the bytes lead from s to t, and end the numbers xs
pub record Reads (s : State) (bytes xs : List ℕ) (t : State) : Type 0 where
  pub state : after s bytes ≡ t
  pub numbers : ended s bytes ≡ xs

pub reads_none : (s : State) → Reads s [] [] s
unfolding after ended
reads_none s = record { state = refl; numbers = refl }

pub reads_then : {s t u : State} {cs bs xs ys : List ℕ} → Reads s cs xs t → Reads t bs ys u → Reads s (cs ++ bs) (xs ++ ys) u
reads_then {s} {t} {u} {cs} {bs} {xs} {ys} a b =
    record {
      state = after-append s cs bs ∙ ap (λ z. after z bs) a.state ∙ b.state;
      numbers = ended-append s cs bs ∙ rw (a.state, a.numbers, b.numbers);
    }

-- one byte
reads-one : {s t : State} {byte : ℕ} {xs : List ℕ} → step s byte ≡ t → kept s t ≡ xs → Reads s (byte ∷ []) xs t
unfolding after ended
reads-one {s} {t} {byte} {xs} e k = record { state = e; numbers = rw (e, append-nil) k }

-- in a number with the value v so far, or not
abbrev on : Bool → ℕ → ℕ → ℕ → ℕ → Bool → ℕ → State
on lined first needs count promised inside v =
    record {
      lined = lined;
      first = first;
      needs = needs;
      count = count;
      promised = promised;
      inside = inside;
      value = v;
      comment = false;
      fault = None;
    }

-- between two numbers
abbrev pub at : Bool → ℕ → ℕ → ℕ → ℕ → State
at lined first needs count promised = on lined first needs count promised false 0

-- in a number
abbrev pub within : Bool → ℕ → ℕ → ℕ → ℕ → ℕ → State
within lined first needs count promised v = on lined first needs count promised true v

kept_same : (s t : State) → s.count ≡ t.count → kept s t ≡ []
unfolding kept
kept_same s t e = rw (le-ltb s.count t.count (omega arith))

kept_next : (s t : State) → s.count < t.count → kept s t ≡ s.value ∷ []
unfolding kept
kept_next s t h = rw (lt-ltb s.count t.count h)

-- a digit is not blank
digit-blank : (d : ℕ) → is_blank (digit d) ≡ false
unfolding is_blank
digit-blank d = rw (
  ne_eqb (digit d) space (λ z. omega arith),
  ne_eqb (digit d) 44 (λ z. omega arith),
  ne_eqb (digit d) 9 (λ z. omega arith),
  ne_eqb (digit d) 13 (λ z. omega arith),
)

module _ (lined : Bool) (first needs count promised : ℕ) where
  -- a digit, as the first one or as a later one
  one-digit : (inside : Bool) (v d w : ℕ) → d < 10 → 10 * v + d ≡ w → w ≤ max_value
      → Reads (on lined first needs count promised inside v) (digit d ∷ []) [] (within lined first needs count promised w)
  one-digit inside v d w h e l =
      let s : State = on lined first needs count promised inside v in
      let small : zero_byte + d - zero_byte ≡ d = omega arith in
      let read = in-digit s (digit d) (digit-blank d) (λ z. omega arith) (omega arith) (omega arith) in
      let goes : with_digit s d ≡ step s (digit d) = rw small at read ∙ step_line s (digit d) refl (λ z. omega arith) refl in
      let there : within lined first needs count promised w ≡ with_digit s d = rw e at (digit-more s d (omega arith)) in
      reads-one (sym (there ∙ goes)) (kept_same s (within lined first needs count promised w) refl)

  -- a number in decimal
  digits_in : (k n : ℕ) → n < k → n ≤ max_value
      → Reads (at lined first needs count promised) (decimal n) [] (within lined first needs count promised n)
  digits_in zero n h l = absurd (omega arith)
  digits_in (suc k) n h l = go (ltb n 10) refl (digits_in k (n / 10))
    where
      go : (b : Bool) → ltb n 10 ≡ b
          → (n / 10 < k → n / 10 ≤ max_value
          → Reads (at lined first needs count promised) (decimal (n / 10)) [] (within lined first needs count promised (n / 10)))
          → Reads (at lined first needs count promised) (decimal n) [] (within lined first needs count promised n)
      go true e front =
          let one = ltb-true n 10 e in
          rw (decimal-one n one) (one-digit false 0 n n one (omega arith) l)
      go false e front =
          let more = ltb-false n 10 e in
          rw (decimal-more n more)
          (reads_then (front (omega arith) (omega arith)) (one-digit true (n / 10) (n % 10) n (omega arith) (omega arith) l))

  pub digits : (n : ℕ) → n ≤ max_value → Reads (at lined first needs count promised) (decimal n) [] (within lined first needs count promised n)
  digits n l = digits_in (suc n) n (omega arith) l

  -- a number and the byte after it, which leads to a state t
  then-byte : (n byte : ℕ) {t : State} {xs : List ℕ} → n ≤ max_value → step (within lined first needs count promised n) byte ≡ t
      → kept (within lined first needs count promised n) t ≡ xs → Reads (at lined first needs count promised) (number n byte) xs t
  then-byte n byte l e k = reads_then (digits n l) (reads-one e k)

  module _ (n : ℕ) (l : n ≤ max_value) where
    module _ (other : is_second (within lined first needs count promised n) ≡ false) (room : count < max_numbers) where
      ends : at lined first needs (count + 1) promised ≡ number_ended (within lined first needs count promised n)
      ends = ended-next (within lined first needs count promised n) refl other room

      -- a number and a space
      pub reads-space : Reads (at lined first needs count promised) (number n space) (n ∷ []) (at lined first needs (count + 1) promised)
      unfolding is_blank
      reads-space =
          let s = within lined first needs count promised n in
          let t = at lined first needs (count + 1) promised in
          then-byte n space l (sym (ends ∙ in-blank s space refl ∙ step_line s space refl (λ z. omega arith) refl)) (kept_next s t (omega arith))

      -- a number and the end of a line
      pub reads-newline : {then : ℕ} → None ≡ line_fault lined first needs (count + 1) → then ≡ needs_then lined first needs (count + 1)
          → Reads (at lined first needs count promised) (number n newline) (n ∷ []) (at lined (count + 1) then (count + 1) promised)
      reads-newline {then} fit e =
          let s = within lined first needs count promised n in
          let t = at lined (count + 1) then (count + 1) promised in
          let next : t ≡ line_ended (at lined first needs (count + 1) promised) =
          rw e (line-next (at lined first needs (count + 1) promised) refl fit refl) in
          then-byte n newline l (sym (next ∙ ap line_ended ends ∙ step-newline s newline refl refl)) (kept_next s t (omega arith))

-- after the first line of a list no number is the count of pairs
pub not-second : (first needs count promised n : ℕ) → 0 < first → is_second (within true first needs count promised n) ≡ false
unfolding is_second
not-second first needs count promised n h = rw (ne_eqb first 0 (λ z. omega arith))

-- the count of pairs, at the end of a list's first line
pub reads-promise : (n : ℕ) → n ≤ max_value → Reads (at true 0 0 1 0) (number n newline) [] (at true 1 0 1 (4 * n + 1))
unfolding is_second line_fault needs_then need_line
reads-promise n l =
    let s = within true 0 0 1 0 n in
    let t = at true 1 0 1 (4 * n + 1) in
    let ended : t ≡ line_ended (number_ended s) = line-next (at true 0 0 1 (4 * n + 1)) refl refl refl ∙ ap line_ended (ended-second s refl refl) in
    then-byte true 0 0 1 0 n newline l (sym (ended ∙ step-newline s newline refl refl)) (kept_same s t refl)
