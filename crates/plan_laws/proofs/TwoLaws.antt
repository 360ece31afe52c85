-- The two-timing period: what works goes on working at longer periods, and no rival beats it.
-- It rests on Kohira and Takahashi 2012, theorem 1, carried over to offsets that are fractions.
use mathlib.Core.Bool.{Bool, true, false}
use mathlib.Core.List.{List}
use mathlib.Core.Path.{◌≡◌, sym, subst}
use Prim.Native.Nat.{ℕ, ◌+◌, ◌-◌, ◌*◌, ◌≤◌}
use native.Mathlib.Nat.{le_refl, one-mul, mul-sub, mul-le-mul_right}
use native.Mathlib.Omega.{arith}
use lib.ListN.{length-replicate}
use Rattle.timing.specs.declared.Pair.{Pair}
use Rattle.timing.specs.Rules.{time, Each, InRange}
use Rattle.search.proofs.SearchLaws.{least-is-least, least-below, least-passes}
use Rattle.free_laws.specs.Free.{common, free_period}
use Rattle.free_laws.proofs.ConstraintList.{admissible→meets}
use Rattle.free_laws.proofs.FreeLaws.{meets→works, period-least, common-pos}
use Rattle.split_laws.specs.Split.{works, timings}
use Rattle.plan_laws.specs.Plan.{two_works, two_period, two_offset}
use Rattle.plan_laws.specs.Unbeaten.{WorksOver, RivalSplit}
use Rattle.split_laws.proofs.FoundLaws.{WorkingSplit, split-there, works→there}
use Rattle.plan_laws.proofs.OffsetLaws.{works→over, over→works, over-coarser, over-longer, over-lower, over-reach}
use Rattle.plan_laws.proofs.OffsetLaws.{over-early, all_early, below-common}

-- ---- theorem 1: a split that works at an offset p / q works at the common period less the period too, and p / q is no less

-- Kohira and Takahashi 2012, theorem 1. All is multiplied by q, so that the offset is whole; lowered to the common period
-- less the period, which is whole, and divided by q again.

module _ (n : ℕ) (ps : List Pair) (t p q : ℕ) (c : List Bool) (pos : 1 ≤ t) (r : RivalSplit n ps t p q c) where
  pub rival-offset : (common ps - t) * q ≤ p
  rival-offset = omega (arith, mul-sub q (common ps) t, over-reach q (t * q) p c ps r.works (omega (arith, mul-le-mul_right q pos)))

  pub rival-works : works t (common ps - t) ps c ≡ true
  rival-works =
      let d : ℕ = common ps - t in
      let enough : common ps ≤ t + d = omega arith in
      let room : common ps * q ≤ t * q + d * q = omega (arith, mul-le-mul_right q enough) in
      let cap = below-common ps (common ps) (le_refl _) in
      let w : WorksOver q (t * q) (d * q) c ps = over-lower q (t * q) p c ps r.works (common ps) (d * q) cap room rival-offset in
      over→works t d c ps (over-coarser q 1 t d c ps r.proper (subst (λ (u : ℕ). WorksOver u (t * q) (d * q) c ps) (sym (one-mul q)) w))

  pub rival-there : two_works n ps t ≡ true
  unfolding two_works
  rival-there = works→there n t (common ps - t) ps c r.size rival-works

module _ (n : ℕ) (ps : List Pair) where
  -- ---- periods at which some split works

  -- what works goes on working: at the longer period with the old offset, and then with the smaller one
  pub two-longer : (t u : ℕ) → t ≤ u → two_works n ps t ≡ true → two_works n ps u ≡ true
  unfolding two_works
  two-longer t u l e =
      let w = split-there n t (common ps - t) ps e in
      let longer = over-longer 1 t (common ps - t) w.split ps (works→over t (common ps - t) w.split ps w.works) u l in
      works→there n u (common ps - u) ps w.split w.size
      (over→works u (common ps - u) w.split ps
      (over-lower 1 u (common ps - t) w.split ps longer (common ps) (common ps - u) (below-common ps (common ps) (le_refl _)) (omega arith) (omega arith)))

  two-at-common : two_works n ps (common ps) ≡ true
  unfolding two_works
  two-at-common =
      works→there n (common ps) (common ps - common ps) ps (all_early n) (length-replicate n false)
      (over→works (common ps) (common ps - common ps) (all_early n) ps
      (over-early n 1 (common ps) (common ps - common ps) (common ps) ps (below-common ps (common ps) (le_refl _)) (omega arith)))

  -- ---- the least of them

  pub two-works : two_works n ps (two_period n ps) ≡ true
  unfolding two_period
  two-works = least-passes (two_works n ps) 1 (common ps) (common-pos ps) two-at-common

  two-least : (t : ℕ) → 1 ≤ t → two_works n ps t ≡ true → two_period n ps ≤ t
  unfolding two_period
  two-least = least-below (two_works n ps) 1 (common ps) (common-pos ps)

  pub two_pos : 1 ≤ two_period n ps
  unfolding two_period
  two_pos = (least-is-least (two_works n ps) 1 (common ps) (common-pos ps)).from

  pub two-common : two_period n ps ≤ common ps
  unfolding two_period
  two-common = (least-is-least (two_works n ps) 1 (common ps) (common-pos ps)).upto

  -- its split
  pub two-split : WorkingSplit n (two_period n ps) (two_offset n ps) ps
  unfolding two_works two_offset
  two-split = split-there n (two_period n ps) (common ps - two_period n ps) ps two-works

  -- no rival has a shorter period, nor a smaller offset at this one: by theorem 1 its split works with the offset that the
  -- definition tries, so its period is among those of which ours is the least
  pub two-best : (t p q : ℕ) (c : List Bool) → 1 ≤ t → RivalSplit n ps t p q c
      → (two_period n ps ≤ t) × (t ≡ two_period n ps → two_offset n ps * q ≤ p)
  unfolding two_offset
  two-best t p q c pos r = (
    two-least t pos (rival-there n ps t p q c pos r),
    λ e. subst (λ (u : ℕ). (common ps - u) * q ≤ p) e (rival-offset n ps t p q c pos r),
  )

  -- a split is a schedule
  pub free-two : Each (InRange n) ps → free_period n ps ≤ two_period n ps
  unfolding works
  free-two w =
      period-least n ps w (two_period n ps) two_pos
      (meets→works n (two_period n ps) ps w (time (timings (two_offset n ps) two-split.split))
      (admissible→meets (two_period n ps) ps (timings (two_offset n ps) two-split.split) two-split.works))
