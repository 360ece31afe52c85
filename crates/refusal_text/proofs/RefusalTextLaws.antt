-- The words for a number that has no row among these.
use Prim.Native.Nat.{ℕ, ◌≤◌}
use Prim.Native.String.{String}
use mathlib.Core.List.{List, [], ◌∷◌}
use mathlib.Core.Path.{◌≡◌, refl, sym, ◌∙◌}
use native.Mathlib.Omega.{arith}
use borrow.Author.Tests.{ne_eqb}
use Rattle.text_pieces.specs.Pieces.{Put}
use Rattle.text_pieces.proofs.PutLaws.{put-within}
use Rattle.refusal_text.specs.RefusalText.{words_width, words_for}
use Rattle.refusal_text.specs.RefusalText.{call_meanings, call_meaning, pair_meanings, pair_meaning, list_meanings, meaning, troubles, trouble}

-- no row has the number
abbrev pub NoRow : List (ℕ × String) → ℕ → Type 0
NoRow [] number = Unit {0}
NoRow (row ∷ rows) number = (number ≡ row.0 → ⊥) × NoRow rows number

pub are-others : (rows : List (ℕ × String)) (rest : ℕ → List ℕ) (number : ℕ) → NoRow rows number → words_for rows rest number ≡ rest number
unfolding words_for
are-others [] rest number h = refl
are-others ((k, words) ∷ rows) rest number h = rw (ne_eqb number k h.0) (are-others rows rest number h.1)

pub others-said : (rows : List (ℕ × String)) (rest : ℕ → List ℕ) (number : ℕ) {w at next : ℕ} {was now : List ℕ} → NoRow rows number
    → Put w (rest number) was at now next → w ≤ words_width → Put words_width (words_for rows rest number) was at now next
others-said rows rest number none put h = rw (are-others rows rest number none) (put-within put (omega (arith, put.most)))

-- the same, of a rest that says one thing
rest-said : (rows : List (ℕ × String)) (words : List ℕ) (number : ℕ) → NoRow rows number → words_for rows (λ x. words) number ≡ words
rest-said rows words = are-others rows (λ x. words)

-- a number without a row means what 2 does
pub other-meaning : (number : ℕ) → NoRow list_meanings number → NoRow pair_meanings number → NoRow call_meanings number → meaning 2 ≡ meaning number
unfolding words_for call_meaning pair_meaning meaning
other-meaning number in_list in_pair in_call =
    let of_call = rest-said call_meanings _ number in_call in
    sym (are-others list_meanings pair_meaning number in_list ∙ (are-others pair_meanings call_meaning number in_pair ∙ of_call))

-- a fault without a row is told as 7 is
pub other-trouble : (fault : ℕ) → NoRow troubles fault → trouble 7 ≡ trouble fault
unfolding words_for trouble
other-trouble fault none = sym (rest-said troubles _ fault none)
