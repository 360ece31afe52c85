-- Laws of a run of checks: the first that fails decides, run after run, and for a loop that makes them thing by thing.
use Prim.Native.Nat.{ℕ, zero, suc, ◌+◌, ◌-◌, ◌<◌, ◌≤◌}
use mathlib.Core.Bool.{true, false}
use mathlib.Core.List.{List, [], ◌∷◌, ◌++◌, append_assoc}
use mathlib.Core.Path.{◌≡◌, refl, ap, sym, ◌∙◌}
use native.Mathlib.Nat.{sub-zero}
use native.Mathlib.Omega.{arith}
use Rattle.std.specs.Prelude.{Ok, Err}
use Rattle.refusals.specs.Checks.{Check, Fault, no_fault, refused_at, or_check, fault_after, first_fault, then_fault, each_check}
use Rattle.refusals.specs.declared.Refusal.{Refusal}
use Rattle.refusals.specs.declared.Refused.{Refused}

-- once a check has failed, the later ones do not matter
pub fault-stays : (r : Refused) (cs : List Check) → fault_after (Err r) cs ≡ Err r
unfolding or_check fault_after
fault-stays r [] = refl
fault-stays r (c ∷ cs) = fault-stays r cs

-- a check that passes changes nothing
pub or-passed : (f : Fault) (refusal : Refusal) (place : ℕ) → or_check f (false, refusal, place) ≡ f
unfolding or_check
or-passed (Ok u) refusal place = refl
or-passed (Err r) refusal place = refl

pub fault-append : (f : Fault) (xs ys : List Check) → fault_after f (xs ++ ys) ≡ fault_after (fault_after f xs) ys
unfolding fault_after
fault-append f [] ys = refl
fault-append f (c ∷ cs) ys = fault-append (or_check f c) cs ys

-- two runs: the first refuses, or it passes and the second decides
pub stop-first : (xs ys : List Check) {r : Refused} → first_fault xs ≡ Err r → first_fault (xs ++ ys) ≡ Err r
stop-first xs ys {r} e = fault-append no_fault xs ys ∙ ap (λ f. fault_after f ys) e ∙ fault-stays r ys

pub pass-first : (xs ys : List Check) → first_fault xs ≡ no_fault → first_fault (xs ++ ys) ≡ first_fault ys
pass-first xs ys e = fault-append no_fault xs ys ∙ ap (λ f. fault_after f ys) e

pub then-both : (xs ys : List Check) → then_fault (first_fault xs) (first_fault ys) ≡ first_fault (xs ++ ys)
unfolding then_fault
then-both xs ys = go (first_fault xs) refl
  where
    go : (f : Fault) → first_fault xs ≡ f → then_fault f (first_fault ys) ≡ first_fault (xs ++ ys)
    go (Ok u) e = sym (pass-first xs ys e)
    go (Err r) e = sym (stop-first xs ys e)

-- both pass
none_first : (f : Fault) (ys : List Check) → fault_after f ys ≡ no_fault → f ≡ no_fault
none_first (Ok u) ys e = refl
none_first (Err r) ys e = sym (fault-stays r ys) ∙ e

pub both-pass : (xs ys : List Check) → first_fault (xs ++ ys) ≡ no_fault → (first_fault xs ≡ no_fault) × (first_fault ys ≡ no_fault)
both-pass xs ys e =
    let first = none_first (first_fault xs) ys (sym (fault-append no_fault xs ys) ∙ e) in
    (first, sym (pass-first xs ys first) ∙ e)

pub pass-both : (xs ys : List Check) → first_fault xs ≡ no_fault → first_fault ys ≡ no_fault → first_fault (xs ++ ys) ≡ no_fault
pass-both xs ys a b = pass-first xs ys a ∙ b

-- no check of the run fails
abbrev pub Passed : List Check → Type 0
Passed [] = Unit {0}
Passed (c ∷ cs) = (c.0 ≡ false) × Passed cs

pub passed : (cs : List Check) → first_fault cs ≡ no_fault → Passed cs
unfolding or_check fault_after
passed [] e = tt
passed ((true, refusal, place) ∷ cs) e =
    let s = fault-stays (refused_at refusal place) cs in
    let z : ◌≡◌ {A = ℕ} 0 1 = cc in
    absurd (omega arith)
passed ((false, refusal, place) ∷ cs) e = (refl, passed cs e)

pub passes : (cs : List Check) → Passed cs → first_fault cs ≡ no_fault
unfolding or_check fault_after
passes [] h = refl
passes ((b, refusal, place) ∷ cs) h = rw h.0 (passes cs h.1)

-- ---- a loop that makes the checks of one thing after another: what is left decides the whole

module _ (f : ℕ → List Check) (after : List Check) (m : ℕ) where
  -- the checks of thing k and later ones, then the others
  abbrev left : ℕ → List Check
  left k = each_check f k (m - k) ++ after

  -- k of the m things have passed
  pub record Remaining (k : ℕ) : Type 0 where
    pub bound : k ≤ m
    pub same : first_fault (each_check f 0 m ++ after) ≡ first_fault (left k)

  pub remaining-start : Remaining 0
  remaining-start = record { bound = omega arith; same = rw sub-zero }

  one_more : (k : ℕ) → k < m → left k ≡ f k ++ left (k + 1)
  unfolding each_check
  one_more k h =
      let e : m - k ≡ suc (m - (k + 1)) = omega arith in
      rw e (append_assoc (f k) (each_check f (k + 1) (m - (k + 1))) after)

  -- x is the fault that is found then: of thing k, or after all of them
  module _ {k : ℕ} (w : Remaining k) {x : Fault} where
    pub remaining-turn : k < m → x ≡ first_fault (f k) → x ≡ no_fault → Remaining (k + 1)
    remaining-turn h e none =
        record { bound = omega arith; same = w.same ∙ ap first_fault (one_more k h) ∙ pass-first (f k) (left (k + 1)) (sym e ∙ none) }

    pub remaining-stops : k < m → x ≡ first_fault (f k) → {r : Refused} → x ≡ Err r
        → Err r ≡ first_fault (each_check f 0 m ++ after)
    remaining-stops h e at = sym (w.same ∙ ap first_fault (one_more k h) ∙ stop-first (f k) (left (k + 1)) (sym e ∙ at))

    pub remaining-end : m ≤ k → x ≡ first_fault after → x ≡ first_fault (each_check f 0 m ++ after)
    unfolding each_check
    remaining-end h e =
        let z : m - k ≡ 0 = omega arith in
        e ∙ sym (w.same ∙ rw z)

-- all pass exactly if each does
each-passes : (f : ℕ → List Check) (i k : ℕ) → first_fault (each_check f i k) ≡ no_fault → (j : ℕ) → j < k → first_fault (f (i + j)) ≡ no_fault
unfolding each_check
each-passes f i zero e j h = absurd (omega arith)
each-passes f i (suc k) e zero h =
    let z : i + 0 ≡ i = omega arith in
    rw z (both-pass (f i) (each_check f (i + 1) k) e).0
each-passes f i (suc k) e (suc j) h =
    let z : i + suc j ≡ i + 1 + j = omega arith in
    rw z (each-passes f (i + 1) k (both-pass (f i) (each_check f (i + 1) k) e).1 j (omega arith))

all_pass : (f : ℕ → List Check) (i k : ℕ) → ((j : ℕ) → j < k → first_fault (f (i + j)) ≡ no_fault) → first_fault (each_check f i k) ≡ no_fault
unfolding each_check fault_after
all_pass f i zero h = refl
all_pass f i (suc k) h =
    let z : i + 0 ≡ i = omega arith in
    pass-both (f i) (each_check f (i + 1) k) (rw z at (h 0 (omega arith))) (all_pass f (i + 1) k later)
  where
    later : (j : ℕ) → j < k → first_fault (f (i + 1 + j)) ≡ no_fault
    later j l =
        let z : i + suc j ≡ i + 1 + j = omega arith in
        rw z at (h (suc j) (omega arith))

-- the same for the checks of the things from 0 on
pub each_of : (f : ℕ → List Check) (k : ℕ) → first_fault (each_check f 0 k) ≡ no_fault → (j : ℕ) → j < k → first_fault (f j) ≡ no_fault
each_of f k e j h =
    let z : 0 + j ≡ j = omega arith in
    rw z at (each-passes f 0 k e j h)

pub all_of : (f : ℕ → List Check) (k : ℕ) → ((j : ℕ) → j < k → first_fault (f j) ≡ no_fault) → first_fault (each_check f 0 k) ≡ no_fault
all_of f k h = all_pass f 0 k (λ j l. let z : 0 + j ≡ j = omega arith in rw z (h j l))
