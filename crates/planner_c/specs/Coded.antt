-- An answer as plain numbers: a status, and nine places of a reply; and what a caller who is told it may rely on.
use Rattle.std.specs.Prelude.{ℕ, List, [], ◌∷◌, ◌≡◌, length, get_or}
use Rattle.refusals.specs.Reply.{Reply, refusal, numbers}

-- the status of a result; no refusal has this number
abbrev pub result_status : ℕ
result_status = 0

-- a result's status, else the refusal's number
unfoldable pub status_of : Reply → ℕ
status_of (refusal number place) = number
status_of (numbers xs) = result_status

-- the values that a reply has room for
abbrev pub value_places : ℕ
value_places = 8

-- how many values there are, and up to eight of them; zeros follow
abbrev pub counted : List ℕ → List ℕ
counted xs =
    length xs ∷ get_or xs 0 0 ∷ get_or xs 1 0 ∷ get_or xs 2 0 ∷ get_or xs 3 0 ∷ get_or xs 4 0 ∷ get_or xs 5 0 ∷ get_or xs 6 0 ∷ get_or xs 7 0 ∷ []

-- the nine places: a refusal's one value is its place
unfoldable pub places_of : Reply → List ℕ
places_of (refusal number place) = counted (place ∷ [])
places_of (numbers xs) = counted xs

-- a caller was told an answer by these numbers
pub record Coded (answer : Reply) (r : ℕ) (reply : List ℕ) : Type 0 where
  pub status : r ≡ status_of answer
  pub places : reply ≡ places_of answer

-- the job gave an answer, the job's own record holds of it, and a caller was told it by these numbers
pub record AnswerCoded {A : Type 0} (reply_for : A → Reply) (Promised : A → Type 0) (r : ℕ) (reply : List ℕ) : Type 0 where
  pub answer : A
  pub promised : Promised answer
  pub coded : Coded (reply_for answer) r reply
