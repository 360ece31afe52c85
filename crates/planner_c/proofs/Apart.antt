-- Nothing is lost: the answer that was told can be read from the status and the reply, so that no two answers are told alike,
-- and what a job promises holds of the answer that the caller reads.
use Prim.Native.Nat.{ℕ, zero, suc, ◌<◌, ◌≤◌}
use mathlib.Core.List.{List, [], ◌∷◌}
use mathlib.Core.Path.{◌≡◌, refl, sym, ap, ◌∙◌}
use native.Mathlib.Omega.{arith}
use lib.ListN.{length, get_or, take, drop}
use Rattle.refusals.specs.Reply.{Reply, refusal, numbers}
use Rattle.planner_c.specs.Coded.{value_places, status_of, counted, places_of, Coded, AnswerCoded}

-- an answer that a status and nine places can hold
unfoldable pub Tellable : Reply → Type 0
Tellable (refusal number place) = 0 < number
Tellable (numbers xs) = length xs ≤ value_places

-- ---- read from the numbers

-- the values of a reply: so many as its first place says
abbrev pub values_of : List ℕ → List ℕ
values_of reply = take (get_or reply 0 0) (drop 1 reply)

-- the answer that a status and a reply tell
unfoldable pub reply_from : ℕ → List ℕ → Reply
reply_from zero reply = numbers (values_of reply)
reply_from (suc n) reply = refusal (suc n) (get_or reply 1 0)

values-from : (xs : List ℕ) → length xs ≤ value_places → values_of (counted xs) ≡ xs
values-from [] h = refl
values-from (a ∷ []) h = refl
values-from (a ∷ b ∷ []) h = refl
values-from (a ∷ b ∷ c ∷ []) h = refl
values-from (a ∷ b ∷ c ∷ d ∷ []) h = refl
values-from (a ∷ b ∷ c ∷ d ∷ e ∷ []) h = refl
values-from (a ∷ b ∷ c ∷ d ∷ e ∷ f ∷ []) h = refl
values-from (a ∷ b ∷ c ∷ d ∷ e ∷ f ∷ g ∷ []) h = refl
values-from (a ∷ b ∷ c ∷ d ∷ e ∷ f ∷ g ∷ i ∷ []) h = refl
values-from (a ∷ b ∷ c ∷ d ∷ e ∷ f ∷ g ∷ i ∷ j ∷ xs) h = absurd (omega arith)

places-from : (q : Reply) → Tellable q → reply_from (status_of q) (places_of q) ≡ q
unfolding status_of places_of Tellable reply_from
places-from (refusal zero place) h = absurd (omega arith)
places-from (refusal (suc n) place) h = refl
places-from (numbers xs) h = ap numbers (values-from xs h)

pub reply-from : {q : Reply} {r : ℕ} {reply : List ℕ} → Tellable q → Coded q r reply → reply_from r reply ≡ q
reply-from {q} h t = rw (t.status, t.places) (places-from q h)

pub told-apart : {a b : Reply} {r : ℕ} {reply : List ℕ} → Tellable a → Tellable b → Coded a r reply → Coded b r reply → a ≡ b
told-apart ha hb ta tb = sym (reply-from ha ta) ∙ reply-from hb tb

-- ---- a job's own answer

-- an answer by its case: g of a refusal, h of the values
unfoldable pub answer_by : {A : Type 0} → (ℕ → ℕ → A) → (List ℕ → A) → Reply → A
answer_by g h (refusal number place) = g number place
answer_by g h (numbers xs) = h xs

-- each answer that a job promises can be told, and answer_of finds it from its numbers
pub record Telling {A : Type 0} (f : A → Reply) (answer_of : Reply → A) (Promised : A → Type 0) : Type 0 where
  pub known : (a : A) → Promised a → answer_of (f a) ≡ a
  pub tellable : (a : A) → Promised a → Tellable (f a)

module _ {A : Type 0} {f : A → Reply} {answer_of : Reply → A} {Promised : A → Type 0} where
  -- where the record gives the numbers for every input, they can be told
  pub telling : ((a : A) → Promised a → answer_of (f a) ≡ a) → {q : Reply} → Tellable q → ((a : A) → Promised a → f a ≡ q)
      → Telling f answer_of Promised
  telling known h reply = record { known = known; tellable = λ a p. rw (reply a p) h }

  module _ (t : Telling f answer_of Promised) {r : ℕ} {reply : List ℕ} (w : AnswerCoded f Promised r reply) where
    told-tellable : Tellable (f w.answer)
    told-tellable = t.tellable w.answer w.promised

    -- the answer is the one that the caller reads
    pub answer-read : answer_of (reply_from r reply) ≡ w.answer
    answer-read = ap answer_of (reply-from told-tellable w.coded) ∙ t.known w.answer w.promised

    -- the job's own record holds of it
    pub promised-read : Promised (answer_of (reply_from r reply))
    promised-read = rw answer-read w.promised

-- two calls of a job that are told alike have the same answer
pub same_answer : {A : Type 0} {f : A → Reply} {answer_of : Reply → A} {P Q : A → Type 0} {r : ℕ} {reply : List ℕ}
    → Telling f answer_of P → Telling f answer_of Q → (v : AnswerCoded f P r reply) (w : AnswerCoded f Q r reply) → v.answer ≡ w.answer
same_answer t u v w = sym (answer-read t v) ∙ answer-read u w
