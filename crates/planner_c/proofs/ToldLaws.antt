-- From a job's answer to what the caller is told, and from what the caller is told to what the job promises.
use Prim.Native.Nat.{ℕ}
use mathlib.Core.List.{List}
use mathlib.Core.Path.{◌≡◌, sym, ap, ◌∙◌}
use Rattle.refusals.specs.Reply.{Reply}
use Rattle.planner_c.specs.Coded.{status_of, places_of, Coded, AnswerCoded}

module _ {A : Type 0} {f : A → Reply} {Promised : A → Type 0} {r : ℕ} {reply : List ℕ} where
  -- the job's answer x is the case y, whose numbers the caller was told
  pub told-case : {x y : A} → Promised x → x ≡ y → (r ≡ status_of (f y)) × (reply ≡ places_of (f y)) → AnswerCoded f Promised r reply
  told-case {x} p is (s, places) =
      let same = ap f (sym is) in
      record { answer = x; promised = p; coded = record { status = s ∙ ap status_of same; places = places ∙ ap places_of same } }

  -- the numbers told are those that the job's record gives for every input
  pub coded-reply : {q : Reply} (w : AnswerCoded f Promised r reply) → f w.answer ≡ q → Coded q r reply
  coded-reply w e = record { status = w.coded.status ∙ ap status_of e; places = w.coded.places ∙ ap places_of e }
