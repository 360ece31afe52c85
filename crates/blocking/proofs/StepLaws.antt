-- The steps of a forest as steps of a chain: what is recorded as broken is broken, and each step leads from a late register to a late one.
use mathlib.Core.Path.{◌≡◌, refl, sym, ap, ◌∙◌}
use mathlib.Core.Logic.{◌⊎◌, inl, inr}
use mathlib.Core.Bool.{Bool, true, false, not, false≢true}
use mathlib.Core.List.{List}
use Prim.Native.Nat.{ℕ, zero, suc, ◌+◌, ◌*◌, ◌/◌, ◌%◌, ◌<◌}
use native.Mathlib.Omega.{arith}
use lib.ListN.{length, get_or, drop}
use lib.Seq.{get_or-drop}
use borrow.Author.Tests.{not-true}
use Rattle.timing.specs.declared.Pair.{Pair}
use Rattle.timing.specs.Limits.{per_register, per_pair}
use Rattle.timing.proofs.RuleLaws.{test→met, met→test}
use Rattle.list_format.specs.Lists.{pair_count, pair_at, pairs_from, pairs}
use Rattle.split_laws.specs.Split.{meets, broken}
use Rattle.split_laws.specs.Choices.{broken_row, flag, flag_at}
use Rattle.split_laws.proofs.ChoiceLaws.{late-launch, flag_one}
use Rattle.propagate.specs.Store.{flags_from, Recorded}
use Rattle.propagate.proofs.StoreLaws.{four-at}
use Rattle.chain_laws.specs.Chains.{node, launch_late, capture_late}
use Rattle.chain_laws.proofs.ChainLaws.{Ends, ahead, back, Step}
use Rattle.forced_late.specs.Forest.{early_early, early_late, late_early, late_late, IsBroken, source_of, Child}

-- ---- the pairs of a list, as a list

from-length : (ws : List ℕ) (k left : ℕ) → length (pairs_from ws k left) ≡ left
unfolding pairs_from
from-length ws k zero = refl
from-length ws k (suc left) = ap suc (from-length ws (k + 1) left)

pub pairs-length : (ws : List ℕ) → length (pairs ws) ≡ pair_count ws
pairs-length ws = from-length ws 0 (pair_count ws)

from_at : (ws : List ℕ) (d : Pair) (k left j : ℕ) → j < left → get_or (pairs_from ws k left) j d ≡ pair_at ws (k + j)
unfolding pairs_from
from_at ws d k zero j h = absurd (omega arith)
from_at ws d k (suc left) zero h = let z : k + 0 ≡ k = omega arith in rw z
from_at ws d k (suc left) (suc j) h =
    let z : k + suc j ≡ k + 1 + j = omega arith in
    rw z (from_at ws d (k + 1) left j (omega arith))

pub pairs-at : (ws : List ℕ) (d : Pair) (k : ℕ) → k < pair_count ws → get_or (pairs ws) k d ≡ pair_at ws k
pairs-at ws d k h = let z : 0 + k ≡ k = omega arith in rw z at (from_at ws d 0 (pair_count ws) k h)

-- ---- what is recorded

module _ (t s : ℕ) (ws : List ℕ) (n : ℕ) (S : List ℕ) (f : Recorded t s ws (drop (flags_from n) S)) where
  recorded-flag : (e : ℕ) → e / per_pair < pair_count ws → get_or S (per_register * n + e) 0 ≡ flag_at t s (pair_at ws (e / per_pair)) (e % per_pair)
  recorded-flag e h =
      let z : per_pair * (e / per_pair) + e % per_pair ≡ e = omega arith in
      let four = four-at (drop (flags_from n) S) (per_pair * (e / per_pair)) (e % per_pair) (omega arith) in
      sym (get_or-drop (flags_from n) S e 0) ∙ ((rw z at (sym four)) ∙ f.each (e / per_pair) h (e % per_pair) (omega arith))

  pub recorded-broken : (e : ℕ) → e / per_pair < pair_count ws → IsBroken n S e → broken_row t s (pair_at ws (e / per_pair)) (e % per_pair) ≡ true
  recorded-broken e h b = flag_one t s (pair_at ws (e / per_pair)) (e % per_pair) (sym (recorded-flag e h) ∙ b)

  pub broken-recorded : (e : ℕ) → e / per_pair < pair_count ws → broken_row t s (pair_at ws (e / per_pair)) (e % per_pair) ≡ true → IsBroken n S e
  broken-recorded e h b = recorded-flag e h ∙ ap flag b

-- ---- a pair whose greatest delay is above the period

module _ (t s : ℕ) (p : Pair) where
  -- late-late is met where late-early is, and where early-early is
  late-late : meets t s p true false ≡ true → meets t s p true true ≡ true
  late-late e =
      let m = test→met p t s 0 e in
      met→test p t s s (record { setup = omega (arith, m.setup); hold = omega arith })

  early-late-late : meets t s p false false ≡ true → meets t s p true true ≡ true
  early-late-late e =
      let m = test→met p t 0 0 e in
      met→test p t s s (record { setup = omega (arith, m.setup); hold = omega arith })

  against : (a b c d : Bool) → (meets t s p a b ≡ true → meets t s p c d ≡ true) → broken t s p c d ≡ true → broken t s p a b ≡ true
  against a b c d f h = go (meets t s p a b) refl
    where
      go : (x : Bool) → meets t s p a b ≡ x → not x ≡ true
      go false e = refl
      go true e = absurd (false≢true (sym (not-true _ h) ∙ f e))

  -- so late-early is broken where late-late or early-early is, and early-early where late-late is
  pub late-late-early : broken_row t s p late_late ≡ true → broken_row t s p late_early ≡ true
  late-late-early = against true false true true late-late

  pub late-late-first : broken_row t s p late_late ≡ true → broken_row t s p early_early ≡ true
  late-late-first = against false false true true early-late-late

  pub early-early-late : broken_row t s p early_early ≡ true → broken_row t s p late_early ≡ true
  early-early-late = against true false false false (late-launch t s p)

-- ---- steps of the list, by their row

module _ (t s : ℕ) (ws : List ℕ) (e : ℕ) (place : e / per_pair < pair_count ws)
    (breaks : broken_row t s (pair_at ws (e / per_pair)) (e % per_pair) ≡ true) where
  made : (x y : ℕ) (a b : Bool) → launch_late e ≡ a → capture_late e ≡ b → Ends (pair_at ws (e / per_pair)) a b x y → Step t s (pairs ws) e x y
  made x y a b ea eb h =
      let same = pairs-at ws (record { launch = 0; capture = 0; least = 0; greatest = 0 }) (e / per_pair) place in
      record {
        place = rw (pairs-length ws) place;
        breaks = rw same breaks;
        ends = rw (same, ea, eb) h;
      }

  -- early-early, at an early capture: the launch is late
  pub by-early-early : e % per_pair ≡ early_early
      → Step t s (pairs ws) e (node (pair_at ws (e / per_pair)).capture false) (node (pair_at ws (e / per_pair)).launch true)
  by-early-early r = made _ _ false false (rw r refl) (rw r refl) (back refl refl)

  -- early-late, at a late capture: the launch is late
  pub by-early-late : e % per_pair ≡ early_late
      → Step t s (pairs ws) e (node (pair_at ws (e / per_pair)).capture true) (node (pair_at ws (e / per_pair)).launch true)
  by-early-late r = made _ _ false true (rw r refl) (rw r refl) (back refl refl)

  -- late-early, at a late launch: the capture is late; at an early capture: the launch is early
  pub by-late-early : e % per_pair ≡ late_early
      → Step t s (pairs ws) e (node (pair_at ws (e / per_pair)).launch true) (node (pair_at ws (e / per_pair)).capture true)
  by-late-early r = made _ _ true false (rw r refl) (rw r refl) (ahead refl refl)

  pub back-late-early : e % per_pair ≡ late_early
      → Step t s (pairs ws) e (node (pair_at ws (e / per_pair)).capture false) (node (pair_at ws (e / per_pair)).launch false)
  back-late-early r = made _ _ true false (rw r refl) (rw r refl) (back refl refl)

  -- late-late, at a late launch: the capture is early
  pub by-late-late : e % per_pair ≡ late_late
      → Step t s (pairs ws) e (node (pair_at ws (e / per_pair)).launch true) (node (pair_at ws (e / per_pair)).capture false)
  by-late-late r = made _ _ true true (rw r refl) (rw r refl) (ahead refl refl)

-- a child of the forest is late by its step
pub child-step : (t s : ℕ) (ws : List ℕ) (n : ℕ) (S : List ℕ) → Recorded t s ws (drop (flags_from n) S) → (e r : ℕ) → Child ws n S e r
    → Step t s (pairs ws) e (node (source_of ws e) true) (node r true)
child-step t s ws n S f e r c = go c.row
  where
    breaks : broken_row t s (pair_at ws (e / per_pair)) (e % per_pair) ≡ true
    breaks = recorded-broken t s ws n S f e c.place c.breaks

    go : (e % per_pair ≡ late_early) ⊎ (e % per_pair ≡ early_late) → Step t s (pairs ws) e (node (source_of ws e) true) (node r true)
    go (inl q) = rw (← c.target, q) (by-late-early t s ws e c.place breaks q)
    go (inr q) = rw (← c.target, q) (by-early-late t s ws e c.place breaks q)
