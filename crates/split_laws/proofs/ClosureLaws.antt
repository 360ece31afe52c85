-- What the marks say of the first split, once no broken choice forces more or a register is forced both ways.
-- Closed marks give a split that works: late where marked late, all others early. Every split that works agrees with the
-- marks, so it is late there too: the split of the marks is the pointwise least, and so the first.
use mathlib.Core.Path.{◌≡◌, refl, ap, sym, ◌∙◌, subst}
use mathlib.Core.Bool.{Bool, true, false, not, false≢true}
use mathlib.Core.List.{List, [], ◌∷◌}
use Prim.Native.Nat.{ℕ, ◌+◌, ◌<◌}
use native.Mathlib.Omega.{arith}
use lib.ListN.{length, get_or, length-map, get_or-map}
use borrow.Author.Count.{below_more}
use borrow.Author.Tests.{eqb-true, eqb-false}
use Rattle.timing.proofs.EachLaws.{each_map}
use Rattle.timing.specs.declared.Pair.{Pair}
use Rattle.timing.specs.Rules.{pair_met, admissible, Each, time}
use Rattle.timing.proofs.RuleLaws.{and-true}
use Rattle.split_laws.specs.declared.Change.{Change}
use Rattle.split_laws.specs.declared.Change.TheVariants.{Settled}
use Rattle.split_laws.specs.Split.{nothing, found, time_of, timings, meets, works, splits, first_of, first_split}
use Rattle.split_laws.specs.Choices.{mark, late, is_late, broken_row, flag}
use Rattle.split_laws.specs.Marks.{choice, Agrees, split_of, MarkStep, joined, Avoids, Applied, Seeded}
use Rattle.split_laws.specs.Marks.{Flagged, keeps, Keeps, RowsClosed, MarksClosed, Settles}
use Rattle.split_laws.proofs.FirstLaws.{NoLater, none_first, least_first}
use Rattle.split_laws.proofs.ChoiceLaws.{late-launch, flag_one}
use Rattle.split_laws.proofs.MarkLaws.{step-none, step-for, step-with, step_then}

-- ---- a split works exactly where each pair keeps its rules

pub time-of : (s : ℕ) (c : List Bool) (r : ℕ) → time (timings s c) r ≡ time_of s (get_or c r false)
time-of s c r = get_or-map (time_of s) c r false

module _ (t s : ℕ) (c : List Bool) where
  rules-as : (p : Pair) → pair_met p t (time (timings s c) p.launch) (time (timings s c) p.capture) ≡ keeps t s p c
  rules-as p = rw (time-of s c p.launch, time-of s c p.capture)

  pub works-each : (ps : List Pair) → works t s ps c ≡ true → Each (λ p. keeps t s p c ≡ true) ps
  unfolding works admissible
  works-each [] e = tt
  works-each (p ∷ ps) e =
      let both = and-true (pair_met p t (time (timings s c) p.launch) (time (timings s c) p.capture)) (admissible t ps (timings s c)) e in
      (sym (rules-as p) ∙ both.0, works-each ps both.1)

  pub each-works : (ps : List Pair) → Each (λ p. keeps t s p c ≡ true) ps → works t s ps c ≡ true
  unfolding works admissible
  each-works [] h = refl
  each-works (p ∷ ps) h = rw (rules-as p ∙ h.0) (each-works ps h.1)

-- ---- what a broken choice says of every split under which the pair keeps its rules

late-mark : (b : Bool) → is_late (mark b) ≡ b
late-mark false = refl
late-mark true = refl

module _ (t s : ℕ) (p : Pair) (c : List Bool) (met : keeps t s p c ≡ true) where
  at-choice : (r x : ℕ) → choice c r ≡ x → get_or c r false ≡ is_late x
  at-choice r x e = sym (late-mark (get_or c r false)) ∙ ap is_late e

  -- it does not make the choice
  pub avoids : (k : ℕ) → broken_row t s p k ≡ true → Avoids p.launch p.capture k c
  avoids k b ea eb = false≢true (sym (ap not (rw (at-choice p.launch _ ea, at-choice p.capture _ eb) at met)) ∙ b)

  -- where early, early is broken, its capture is late
  pub capture-late : broken_row t s p 0 ≡ true → choice c p.capture ≡ late
  capture-late b = go (get_or c p.launch false) (get_or c p.capture false) met
    where
      go : (x y : Bool) → meets t s p x y ≡ true → mark y ≡ late
      go x true e = refl
      go false false e = absurd (false≢true (sym (ap not e) ∙ b))
      go true false e = absurd (false≢true (sym (ap not (late-launch t s p e)) ∙ b))

-- ---- one pair: row by row, then its capture

-- what the flags force by the first k rows is followed
abbrev pub Settling : ℕ → Pair → List ℕ → List ℕ → List ℕ → Change → Type 0
Settling k p fs = MarkStep (Keeps p fs) (λ (M : List ℕ). (t s : ℕ) → Flagged t s p fs → RowsClosed k t s p M)

module _ (p : Pair) (fs : List ℕ) where
  pub settling-start : (M : List ℕ) → Settling 0 p fs M M Settled
  settling-start M = step-none M (λ t s g i l. absurd (omega arith))

  pub settling-turn : {k : ℕ} → k < 4 → {M M' M'' : List ℕ} {o o' o'' : Change} → o'' ≡ joined o o' →
      Settling k p fs M M' o → Applied p.launch p.capture k (get_or fs k 0) M' M'' o' → Settling (k + 1) p fs M M'' o''
  settling-turn {k} l e h h' =
      rw e
      (step-with (λ x t s g. below_more _ k (x.0 t s g) (λ b. x.1 (g k l ∙ ap flag b)))
      (step_then h
      (step-for (λ c q f. avoids q.period q.offset p c q.met k (flag_one q.period q.offset p k (sym (q.flags k l) ∙ f))) h')))

  pub settling-end : {M M' M'' : List ℕ} {o o' o'' : Change} → o'' ≡ joined o o' →
      Settling 4 p fs M M' o → Seeded p.capture (get_or fs 0 0) M' M'' o' → Settles p fs M M'' o''
  settling-end e h h' =
      rw e
      (step-with (λ x t s g. record { rows = x.0 t s g; seeded = λ b. x.1 (g 0 (omega arith) ∙ ap flag b) })
      (step_then h
      (step-for
      (λ c q f. capture-late q.period q.offset p c q.met (flag_one q.period q.offset p 0 (sym (q.flags 0 (omega arith)) ∙ f)))
      h')))

-- ---- the split that the marks give

pub length-split_of : (M : List ℕ) → length (split_of M) ≡ length M
unfolding split_of
length-split_of M = length-map M is_late

pub get_d-split_of : (M : List ℕ) (i : ℕ) → get_or (split_of M) i false ≡ is_late (get_or M i 0)
unfolding split_of
get_d-split_of M i = get_or-map is_late M i 0

-- Nothing more is forced: then the pair keeps its rules, also where one end or both have no mark and are early for that.
-- A broken early, early has the capture marked late; a broken choice with a late end has the other end marked against it.
pub closed-keeps : (t s : ℕ) (p : Pair) (M : List ℕ) → MarksClosed t s p M → keeps t s p (split_of M) ≡ true
closed-keeps t s p M h =
    rw (get_d-split_of M p.launch, get_d-split_of M p.capture)
    (go (is_late x) (is_late y) (meets t s p (is_late x) (is_late y)) refl refl refl)
  where
    x : ℕ
    x = get_or M p.launch 0

    y : ℕ
    y = get_or M p.capture 0

    go : (a b m : Bool) → is_late x ≡ a → is_late y ≡ b → meets t s p a b ≡ m → m ≡ true
    go a b true ea eb e = refl
    go false false false ea eb e = absurd (eqb-false y 2 eb (h.seeded (ap not e)))
    go false true false ea eb e = absurd (eqb-false x 2 ea (omega (arith, (h.rows 1 (omega arith) (ap not e)).1 (eqb-true y 2 eb))))
    go true false false ea eb e = absurd (eqb-false y 2 eb (omega (arith, (h.rows 2 (omega arith) (ap not e)).0 (eqb-true x 2 ea))))
    go true true false ea eb e = absurd (omega (arith, (h.rows 3 (omega arith) (ap not e)).0 (eqb-true x 2 ea), eqb-true y 2 eb))

-- it is late only where every split that agrees with the marks is
pub split_below : (M : List ℕ) (c : List Bool) → Agrees c M → NoLater (split_of M) c
split_below M c a i e =
    let two : get_or M i 0 ≡ 2 = eqb-true _ _ (sym (get_d-split_of M i) ∙ e) in
    late-true (get_or c i false) (sym (a i (λ z. omega arith)) ∙ two)
  where
    late-true : (b : Bool) → mark b ≡ late → b ≡ true
    late-true false e = absurd (omega arith)
    late-true true e = refl

-- ---- the first split

module _ (n t s : ℕ) (ps : List Pair) where
  -- a clash refutes all splits
  pub first-none : ((c : List Bool) → works t s ps c ≡ true → ⊥) → first_split n t s ps ≡ nothing
  unfolding first_split
  first-none h = none_first n (works t s ps) (λ c l w. h c w)

  -- marks that force nothing more, and with which every working split agrees: their split works (`closed-keeps`) and is
  -- the pointwise least that does (`split_below`)
  pub first_found : (M : List ℕ) → length M ≡ n → Each (λ p. MarksClosed t s p M) ps → ((c : List Bool) → works t s ps c ≡ true → Agrees c M)
      → first_split n t s ps ≡ found (split_of M)
  unfolding first_split
  first_found M e closed sound =
      subst (λ (k : ℕ). first_of (works t s ps) (splits k) ≡ found (split_of M)) (length-split_of M ∙ e)
      (least_first (split_of M) (works t s ps)
      (each-works t s (split_of M) ps (each_map (λ p h. closed-keeps t s p M h) ps closed))
      (λ c l w. split_below M c (sound c w)))
