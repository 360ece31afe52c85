-- Two lists of pairs of which the same joining properties hold have the same answers.
use mathlib.Core.Bool.{Bool, true, false}
use mathlib.Core.List.{List}
use mathlib.Core.Path.{◌≡◌, refl, ap, ap₂, sym, ◌∙◌, fun_ext}
use Prim.Native.Nat.{ℕ, ◌-◌, ◌≤◌}
use native.Mathlib.Nat.{le_refl}
use native.Mathlib.Omega.{arith}
use Rattle.timing.specs.declared.Pair.{Pair}
use Rattle.timing.specs.Rules.{time, admissible, Each, InRange}
use Rattle.ordering.specs.Order.{Joins}
use Rattle.search.specs.Search.{least}
use Rattle.free_laws.specs.Free.{common, free_at, free_works, free_period, free_schedule}
use Rattle.free_laws.specs.Constraint.{Meets, constraints}
use Rattle.free_laws.specs.Rival.{Frac, RivalAdmissible}
use Rattle.free_laws.proofs.ConstraintList.{each-rule, each-pair, admissible→meets, meets→admissible}
use Rattle.free_laws.proofs.Least.{least-unique}
use Rattle.free_laws.proofs.FreeLaws.{free-is-least, meets→works, works→meets, common-pos, common-limit, period-works}
use Rattle.split_laws.specs.Split.{works, splits, first_of, first_split, is_found, split_works}
use Rattle.plan_laws.specs.Plan.{two_works, two_period, two_offset, two_split, timings_of, two_timings}
use Rattle.plan_laws.specs.Unbeaten.{WorksOver}
use Rattle.plan_laws.proofs.OffsetLaws.{below-common}
use Rattle.same_answers.specs.Same.{SameAnswers}
use Rattle.same_answers.proofs.JoinsLaws.{meets-joins, rival-joins, over-joins, limit-joins}

-- two tests of which each passes where the other does
both_ways : (a b : Bool) → (a ≡ true → b ≡ true) → (b ≡ true → a ≡ true) → b ≡ a
both_ways true b f g = f refl
both_ways false true f g = sym (g refl)
both_ways false false f g = refl

-- ---- one way: what joins holds of qs where it holds of ps

module _ (ps qs : List Pair) (there : (P : Pair → Type 0) → Joins P → Each P ps → Each P qs) where
  meets-there : (t : ℕ) (f : ℕ → ℕ) → Each (Meets f) (constraints t ps) → Each (Meets f) (constraints t qs)
  meets-there t f m = each-rule (Meets f) t (λ p b. b) qs (there _ (meets-joins t f) (each-pair (Meets f) t (λ p a b. (a, b)) ps m))

  admissible-there : (t : ℕ) (s : List ℕ) → admissible t ps s ≡ true → admissible t qs s ≡ true
  admissible-there t s e = meets→admissible t qs s (meets-there t (time s) (admissible→meets t ps s e))

  rival-there : (t : ℕ) (s : List Frac) → RivalAdmissible t ps s → RivalAdmissible t qs s
  rival-there t s = there _ (rival-joins t s)

  works-there : (u t s : ℕ) (c : List Bool) → WorksOver u t s c ps → WorksOver u t s c qs
  works-there u t s c = there _ (over-joins u t s c)

  common-there : common qs ≤ common ps
  common-there = common-limit (common ps) (common-pos ps) qs (there _ (limit-joins (common ps)) (below-common ps (common ps) (le_refl _)))

  free-there : (n : ℕ) → Each (InRange n) qs → (t : ℕ) → free_works n t ps ≡ true → free_works n t qs ≡ true
  free-there n v t e = meets→works n t qs v (time (free_at n t ps)) (meets-there t (time (free_at n t ps)) (works→meets n t ps e))

-- ---- both ways

module _ (n : ℕ) (ps qs : List Pair) (w : Each (InRange n) ps) (v : Each (InRange n) qs)
    (there : (P : Pair → Type 0) → Joins P → Each P ps → Each P qs)
    (back : (P : Pair → Type 0) → Joins P → Each P qs → Each P ps) where
  same-schedules : (t : ℕ) (s : List ℕ) → admissible t qs s ≡ admissible t ps s
  same-schedules t s = both_ways (admissible t ps s) (admissible t qs s) (admissible-there ps qs there t s) (admissible-there qs ps back t s)

  same-common : common qs ≡ common ps
  same-common = omega (arith, common-there ps qs there, common-there qs ps back)

  -- ---- the free period and its schedule

  same-free-works : (t : ℕ) → free_works n t qs ≡ free_works n t ps
  same-free-works t = both_ways (free_works n t ps) (free_works n t qs) (free-there ps qs there n v t) (free-there qs ps back n w t)

  same-free : free_period n qs ≡ free_period n ps
  unfolding free_period
  same-free = ap₂ (λ (f : ℕ → Bool) (c : ℕ). least f 1 c) (fun_ext same-free-works) same-common

  -- the least schedule of ps is that of qs: each is below all times that meet the rules, and these are the same
  same-least : (t : ℕ) (f : ℕ → ℕ) → Each (Meets f) (constraints t ps) → free_at n t qs ≡ free_at n t ps
  same-least t f m =
      let l = free-is-least n t ps w f m in
      least-unique
      (free-is-least n t qs v f (meets-there ps qs there t f m))
      (record {
        size = l.size;
        meets = meets-there ps qs there t (time (free_at n t ps)) l.meets;
        below = λ g k. l.below g (meets-there qs ps back t g k);
      })

  same-schedule : free_schedule n qs ≡ free_schedule n ps
  unfolding free_schedule
  same-schedule =
      ap (λ (t : ℕ). free_at n t qs) same-free
      ∙ same-least (free_period n ps) _ (works→meets n (free_period n ps) ps (period-works n ps w))

  -- ---- splits

  same_first : (t s : ℕ) → first_split n t s qs ≡ first_split n t s ps
  unfolding first_split works
  same_first t s = ap (λ (f : List Bool → Bool). first_of f (splits n)) (fun_ext (λ c. same-schedules t _))

  same-two-works : (t : ℕ) → two_works n qs t ≡ two_works n ps t
  unfolding two_works split_works
  same-two-works t = rw same-common (ap is_found (same_first t (common ps - t)))

  same-two : two_period n qs ≡ two_period n ps
  unfolding two_period
  same-two = ap₂ (λ (f : ℕ → Bool) (c : ℕ). least f 1 c) (fun_ext same-two-works) same-common

  same-offset : two_offset n qs ≡ two_offset n ps
  unfolding two_offset
  same-offset = ap₂ (λ (c t : ℕ). c - t) same-common same-two

  same-split : two_split n qs ≡ two_split n ps
  unfolding two_split
  same-split = rw (same-two, same-offset) (same_first (two_period n ps) (two_offset n ps))

  same-timings : two_timings n qs ≡ two_timings n ps
  unfolding two_timings
  same-timings = ap₂ timings_of same-offset same-split

  -- lists of which the same joining properties hold have the same answers
  pub same-answers : SameAnswers n ps qs
  same-answers = record {
    schedules = same-schedules;
    rivals = λ t s. (rival-there ps qs there t s, rival-there qs ps back t s);
    works = λ u t s c. (works-there ps qs there u t s c, works-there qs ps back u t s c);
    common_is = same-common;
    free_is = same-free;
    schedule_is = same-schedule;
    first_is = same_first;
    two_is = same-two;
    offset_is = same-offset;
    split_is = same-split;
    timings_is = same-timings;
  }
