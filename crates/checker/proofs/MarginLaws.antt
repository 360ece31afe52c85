-- The margins of one pair, and the walk over all of them: what it comes to after each pair.
use Prim.Native.Nat.{ℕ, ◌+◌, ◌≤◌, ◌<◌, zero-le}
use mathlib.Core.Bool.{Bool, true, false, not, ◌&&◌, cond, false≢true}
use mathlib.Core.List.{List}
use mathlib.Core.Logic.{◌⊎◌, inl, inr}
use mathlib.Core.Path.{◌≡◌, refl, ap, sym, ◌∙◌}
use native.Mathlib.Omega.{arith}
use borrow.Author.Tests.{not-true, not-false}
use lib.IntN.{ℤ, pos, negsuc}
use lib.Signed.{non_neg, le_z, lt_z, ◌≤ℤ◌, ◌<ℤ◌, ≤ℤ_refl, <ℤ-≤ℤ_trans}
use Rattle.timing.specs.declared.Pair.{Pair}
use Rattle.timing.specs.Rules.{setup_margin, hold_margin, time}
use Rattle.timing.proofs.MarginLaws.{lt-or-le, at-least-nought, below-nought}
use Rattle.search.specs.Lowest.{lowest}
use Rattle.search.proofs.SearchLaws.{least-is}
use Rattle.search.proofs.LowestLaws.{IsLowest, lowest-is, lowest-one, lowest-lower, lowest-kept, lower→le, lower-true, lower-false, le_trans, at-most-is}
use Rattle.list_format.specs.Lists.{pair_count, IsPair}
use Rattle.checker.specs.Check.{margin_at, low_rule, low_at, smallest_at, smallest, met_at, first_broken, broken_rule, rule_number, margin_place}
use Rattle.checker.specs.Check.{walked_on, Walked}
use Rattle.checker.specs.declared.Rule.{Rule}
use Rattle.checker.specs.declared.Rule.TheVariants.{Setup, Hold}
use Rattle.checker.specs.declared.Smallest.{Smallest}
use Rattle.checker.specs.declared.Walk.{Walk}

-- ---- the smaller of two margins

both_hold : (a b : ℤ) → lt_z b a ≡ true → non_neg a && non_neg b ≡ non_neg b
both_hold (pos a) b e = refl
both_hold (negsuc a) (pos b) e = absurd (false≢true e)
both_hold (negsuc a) (negsuc b) e = refl

both-setup : (a b : ℤ) → lt_z b a ≡ false → non_neg a && non_neg b ≡ non_neg a
both-setup (pos a) (pos b) e = refl
both-setup (pos a) (negsuc b) e = absurd (false≢true (sym e))
both-setup (negsuc a) b e = refl

-- what is at least a number that is not negative is not negative
pub not_negative : (a b : ℤ) → a ≤ℤ b → non_neg a ≡ true → non_neg b ≡ true
not_negative (pos a) (pos b) h e = refl
not_negative (pos a) (negsuc b) h e = absurd h.le
not_negative (negsuc a) b h e = absurd (false≢true e)

module _ (ws : List ℕ) (t : ℕ) (s : List ℕ) (k : ℕ) where
  -- both rules are met where the smaller margin is not negative
  pub met-low : met_at ws t s k ≡ non_neg (low_at ws t s k)
  unfolding met_at low_rule
  met-low = go (lt_z (margin_at ws t s k Hold) (margin_at ws t s k Setup)) refl
    where
      go : (b : Bool) → lt_z (margin_at ws t s k Hold) (margin_at ws t s k Setup) ≡ b
          → non_neg (margin_at ws t s k Setup) && non_neg (margin_at ws t s k Hold) ≡ non_neg (margin_at ws t s k (cond b Hold Setup))
      go true e = both_hold (margin_at ws t s k Setup) (margin_at ws t s k Hold) e
      go false e = both-setup (margin_at ws t s k Setup) (margin_at ws t s k Hold) e

  -- it is at most each
  pub low-most : (rule : Rule) → low_at ws t s k ≤ℤ margin_at ws t s k rule
  unfolding low_rule
  low-most rule = go (lt_z (margin_at ws t s k Hold) (margin_at ws t s k Setup)) refl rule
    where
      go : (b : Bool) → lt_z (margin_at ws t s k Hold) (margin_at ws t s k Setup) ≡ b → (rule : Rule)
          → margin_at ws t s k (cond b Hold Setup) ≤ℤ margin_at ws t s k rule
      go true e Setup = lower→le (lower-true e)
      go true e Hold = ≤ℤ_refl (margin_at ws t s k Hold)
      go false e Setup = ≤ℤ_refl (margin_at ws t s k Setup)
      go false e Hold = lower-false e

  -- hold is named only where it is below setup
  pub low-hold : low_rule ws t s k ≡ Hold → low_at ws t s k <ℤ margin_at ws t s k Setup
  unfolding low_rule
  low-hold e = go (lt_z (margin_at ws t s k Hold) (margin_at ws t s k Setup)) refl e
    where
      go : (b : Bool) → lt_z (margin_at ws t s k Hold) (margin_at ws t s k Setup) ≡ b → cond b Hold Setup ≡ Hold
          → margin_at ws t s k (cond b Hold Setup) <ℤ margin_at ws t s k Setup
      go true l e = lower-true l
      go false l e = let z : ◌≡◌ {A = ℕ} 0 1 = cc in absurd (omega arith)

-- ---- the margins of a pair that was taken from the list

module _ (t : ℕ) (s : List ℕ) {ws : List ℕ} {k : ℕ} {p : Pair} (is : IsPair ws k p) {x : ℤ}
    (setup : x ≡ setup_margin p t (time s p.launch) (time s p.capture)) where
  setup-same : x ≡ margin_at ws t s k Setup
  unfolding margin_at
  setup-same = setup ∙ ap (λ (q : Pair). setup_margin q t (time s q.launch) (time s q.capture)) is.same

  -- setup is broken
  pub met-not : lt_z x (pos 0) ≡ true → false ≡ met_at ws t s k
  unfolding met_at
  met-not e = rw (← setup-same, not-true (non_neg x) (sym (below-nought x) ∙ e))

  pub breaks-hold : le_z (pos 0) x ≡ true → Hold ≡ broken_rule ws t s k
  unfolding broken_rule
  breaks-hold e = rw (← setup-same, sym (at-least-nought x) ∙ e)

  pub breaks-setup : le_z (pos 0) x ≡ false → Setup ≡ broken_rule ws t s k
  unfolding broken_rule
  breaks-setup e = rw (← setup-same, sym (at-least-nought x) ∙ e)

  module _ {y : ℤ} (hold : y ≡ hold_margin p (time s p.launch) (time s p.capture)) where
    hold-same : y ≡ margin_at ws t s k Hold
    unfolding margin_at
    hold-same = hold ∙ ap (λ (q : Pair). hold_margin q (time s q.launch) (time s q.capture)) is.same

    -- setup is met: hold decides
    pub met-both : lt_z x (pos 0) ≡ false → le_z (pos 0) y ≡ met_at ws t s k
    unfolding met_at
    met-both e = rw (← setup-same, ← hold-same, not-false (non_neg x) (sym (below-nought x) ∙ e), at-least-nought y)

    -- the smaller of the two
    pub hold-lower : lt_z y x ≡ true → record { margin = y; pair = k; rule = Hold } ≡ smallest_at ws t s k
    unfolding low_rule
    hold-lower e = rw (← setup-same, ← hold-same, e, ← hold-same)

    pub hold-not-lower : lt_z y x ≡ false → record { margin = x; pair = k; rule = Setup } ≡ smallest_at ws t s k
    unfolding low_rule
    hold-not-lower e = rw (← setup-same, ← hold-same, e, ← setup-same)

-- ---- a walk with one pair more

module _ (w : Walk) (x : Smallest) where
  lower : le_z w.smallest.margin x.margin ≡ false → lt_z x.margin w.smallest.margin ≡ true
  lower e = not-false _ (sym (at-most-is x.margin w.smallest.margin) ∙ e)

  pub walk_kept : le_z w.smallest.margin x.margin ≡ true → w ≡ walked_on w x
  unfolding walked_on
  walk_kept e = rw (not-true (lt_z x.margin w.smallest.margin) (sym (at-most-is x.margin w.smallest.margin) ∙ e))

  pub walk-lower : le_z w.smallest.margin x.margin ≡ false → lt_z w.smallest.margin (pos 0) ≡ true
      → record { smallest = x; broken = w.broken } ≡ walked_on w x
  unfolding walked_on
  walk-lower e n = rw (lower e, not-true (non_neg w.smallest.margin) (sym (below-nought w.smallest.margin) ∙ n))

  pub walk_first : le_z w.smallest.margin x.margin ≡ false → lt_z w.smallest.margin (pos 0) ≡ false
      → record { smallest = x; broken = x.pair } ≡ walked_on w x
  unfolding walked_on
  walk_first e n = rw (lower e, not-false (non_neg w.smallest.margin) (sym (below-nought w.smallest.margin) ∙ n))

-- ---- pair after pair

module _ (ws : List ℕ) (t : ℕ) (s : List ℕ) where
  -- the first pair with a negative margin
  first-here : {k : ℕ} → k < pair_count ws → ((j : ℕ) → j < k → non_neg (low_at ws t s j) ≡ true) → non_neg (low_at ws t s k) ≡ false
      → k ≡ first_broken ws t s
  unfolding first_broken
  first-here {k} h met e =
      sym (least-is (λ j. not (met_at ws t s j)) 0 (pair_count ws) k (record {
        from = zero-le;
        upto = omega arith;
        passes = λ l. ap not (met-low ws t s k ∙ e);
        before = λ j a b. ap not (met-low ws t s j ∙ met j b);
      }))

module _ {ws : List ℕ} {t : ℕ} {s : List ℕ} where
  pub walked_start : {x : Smallest} → 0 < pair_count ws → x ≡ smallest_at ws t s 0 → Walked ws t s 1 (record { smallest = x; broken = 0 })
  walked_start h e =
      record {
        smallest = rw (lowest-one (low_at ws t s)) e;
        broken = λ n. first-here ws t s h (λ j l. absurd (omega arith)) (ap (λ (y : Smallest). non_neg y.margin) (sym e) ∙ n);
      }

  module _ {k : ℕ} {w : Walk} (is : Walked ws t s k w) (some : 0 < k) (h : k < pair_count ws) {x : Smallest} (e : x ≡ smallest_at ws t s k) where
    abbrev margins : ℕ → ℤ
    margins = low_at ws t s

    so_far : w.smallest.margin ≡ margins (lowest margins k)
    so_far = ap (λ (y : Smallest). y.margin) is.smallest

    here : x.margin ≡ margins k
    here = ap (λ (y : Smallest). y.margin) e

    test : (b : Bool) → lt_z x.margin w.smallest.margin ≡ b → lt_z (margins k) (margins (lowest margins k)) ≡ b
    test b q = rw (so_far, here) at q

    -- no pair before k has a margin below that of the walk
    met-before : non_neg w.smallest.margin ≡ true → (j : ℕ) → j < k → non_neg (margins j) ≡ true
    met-before n j l = not_negative (margins (lowest margins k)) (margins j) ((lowest-is margins k some).least j l) (rw so_far at n)

    first-broken : (b : Bool) → non_neg w.smallest.margin ≡ b → non_neg x.margin ≡ false → cond b x.pair w.broken ≡ first_broken ws t s
    first-broken true n m = ap (λ (y : Smallest). y.pair) e ∙ first-here ws t s h (met-before n) (rw here at m)
    first-broken false n m = is.broken n

    pub walked-turn : Walked ws t s (k + 1) (walked_on w x)
    unfolding walked_on
    walked-turn = go (lt_z x.margin w.smallest.margin) refl
      where
        go : (b : Bool) → lt_z x.margin w.smallest.margin ≡ b
            → Walked ws t s (k + 1) (cond b (record { smallest = x; broken = cond (non_neg w.smallest.margin) x.pair w.broken }) w)
        go true q =
            record {
              smallest = e ∙ ap (smallest_at ws t s) (lowest-lower margins k refl (test true q));
              broken = λ n. first-broken (non_neg w.smallest.margin) refl n;
            }
        go false q = record { smallest = is.smallest ∙ ap (smallest_at ws t s) (lowest-kept margins k refl (test false q)); broken = is.broken }

-- ---- the smallest of all

module _ (ws : List ℕ) (t : ℕ) (s : List ℕ) (some : 0 < pair_count ws) where
  the-lowest : IsLowest (low_at ws t s) (pair_count ws) (smallest ws t s).pair
  unfolding smallest
  the-lowest = lowest-is (low_at ws t s) (pair_count ws) some

  pub smallest-below : (smallest ws t s).pair < pair_count ws
  smallest-below = the-lowest.below

  -- the pair that has it meets both rules where it is not negative
  pub smallest-met : non_neg (smallest ws t s).margin ≡ met_at ws t s (smallest ws t s).pair
  unfolding smallest
  smallest-met = sym (met-low ws t s _)

  -- its rule is the pair's
  pub smallest-is : (smallest ws t s).margin ≡ margin_at ws t s (smallest ws t s).pair (smallest ws t s).rule
  unfolding smallest
  smallest-is = refl

  pub smallest-least : (k : ℕ) (rule : Rule) → k < pair_count ws → (smallest ws t s).margin ≤ℤ margin_at ws t s k rule
  unfolding smallest
  smallest-least k rule h = le_trans (the-lowest.least k h) (low-most ws t s k rule)

  -- none before it is as small: of an earlier pair, or setup of the same pair
  before-pair : (k : ℕ) (rule : Rule) → k < (smallest ws t s).pair → (smallest ws t s).margin <ℤ margin_at ws t s k rule
  unfolding smallest
  before-pair k rule h = <ℤ-≤ℤ_trans (the-lowest.before k h) (low-most ws t s k rule)

  before-hold : (smallest ws t s).rule ≡ Hold → (smallest ws t s).margin <ℤ margin_at ws t s (smallest ws t s).pair Setup
  unfolding smallest
  before-hold e = low-hold ws t s _ e

  pub smallest-first : (k : ℕ) (rule : Rule) → margin_place k rule < margin_place (smallest ws t s).pair (smallest ws t s).rule
      → (smallest ws t s).margin <ℤ margin_at ws t s k rule
  unfolding rule_number
  smallest-first k rule h = go (smallest ws t s).rule refl rule h (lt-or-le k (smallest ws t s).pair)
    where
      go : (named : Rule) → (smallest ws t s).rule ≡ named → (rule : Rule) → margin_place k rule < margin_place (smallest ws t s).pair named
          → (k < (smallest ws t s).pair) ⊎ ((smallest ws t s).pair ≤ k) → (smallest ws t s).margin <ℤ margin_at ws t s k rule
      go named e rule h (inl l) = before-pair k rule l
      go Setup e Setup h (inr l) = absurd (omega arith)
      go Setup e Hold h (inr l) = absurd (omega arith)
      go Hold e Hold h (inr l) = absurd (omega arith)
      go Hold e Setup h (inr l) =
          let same : k ≡ (smallest ws t s).pair = omega arith in
          rw same (before-hold e)
