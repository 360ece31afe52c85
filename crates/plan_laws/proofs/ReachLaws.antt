-- Reaches: what each pair lets one raise, and that reaches which rise no further give the least period and the first split.
-- At period t and offset top - t each of the four choices of a pair asks one inequality of t (`Asks`). Where a choice that
-- the reaches leave open fails it, a reach may be raised; where no pair raises any, the split that is late where the reach
-- is above t makes no choice that fails.
use mathlib.Core.Path.{◌≡◌, refl, ap, sym, ◌∙◌, subst}
use mathlib.Core.Bool.{Bool, true, false, false≢true}
use mathlib.Core.List.{List, [], ◌∷◌}
use Prim.Native.Nat.{ℕ, zero, suc, ◌+◌, ◌-◌, ◌≤◌, ◌<◌, max, min, zero-le}
use native.Mathlib.Nat.{le_refl}
use native.Mathlib.Omega.{arith}
use lib.Dec.{ltb}
use lib.ListN.{length, get_or, replicate, length-map, get_or-map}
use borrow.Author.Tests.{ltb-true, ltb-false, le-ltb}
use Rattle.timing.specs.declared.Pair.{Pair}
use Rattle.timing.specs.Rules.{time, Each}
use Rattle.timing.proofs.RuleLaws.{test→met, met→test}
use Rattle.search.proofs.SearchLaws.{IsLeast}
use Rattle.timing.proofs.EachLaws.{each-zip}
use Rattle.free_laws.proofs.ConstraintList.{meets-longer, admissible→meets}
use Rattle.free_laws.specs.Constraint.{Bound}
use Rattle.split_laws.specs.Split.{nothing, found, time_of, timings, meets, works, splits, first_of, first_split, is_found, split_works}
use Rattle.split_laws.specs.Marks.{keeps}
use Rattle.split_laws.proofs.FirstLaws.{NoLater, least_first}
use Rattle.split_laws.proofs.ClosureLaws.{works-each, each-works, first-none}
use Rattle.plan_laws.specs.Reach.{reach_of, Forces, Reaches, ahead, behind, ReachClosed, reach_period, late_above, NoneBelow}

-- ---- what the four choices ask of a pair at period t and offset top - t

abbrev Asks : ℕ → ℕ → Pair → Bool → Bool → Type 0
Asks top t p false false = p.greatest ≤ t
Asks top t p false true = top ≤ p.least + t
Asks top t p true false = top + p.greatest ≤ t + t
Asks top t p true true = p.greatest ≤ t

module _ (top t : ℕ) (p : Pair) (h : t ≤ top) (g : p.greatest ≤ top) where
  meets-asks : (a b : Bool) → meets t (top - t) p a b ≡ true → Asks top t p a b
  meets-asks a b e =
      let m = test→met p t (time_of (top - t) a) (time_of (top - t) b) e in
      go a b m.setup m.hold
    where
      go : (a b : Bool) → time_of (top - t) a + p.greatest ≤ time_of (top - t) b + t
          → time_of (top - t) b ≤ time_of (top - t) a + p.least → Asks top t p a b
      go false false s d = omega arith
      go false true s d = omega arith
      go true false s d = omega arith
      go true true s d = omega arith

  asks-meets : (a b : Bool) → Asks top t p a b → meets t (top - t) p a b ≡ true
  asks-meets false false q = met→test p t 0 0 (record { setup = omega arith; hold = omega arith })
  asks-meets false true q = met→test p t 0 (top - t) (record { setup = omega arith; hold = omega arith })
  asks-meets true false q = met→test p t (top - t) 0 (record { setup = omega arith; hold = omega arith })
  asks-meets true true q = met→test p t (top - t) (top - t) (record { setup = omega arith; hold = omega arith })

-- ---- a pair of the list

pub record PairOf (top : ℕ) (ps : List Pair) (p : Pair) : Type 0 where
  pub kept : (t s : ℕ) (c : List Bool) → works t s ps c ≡ true → keeps t s p c ≡ true
  pub under : p.greatest ≤ top

module _ (top : ℕ) (ps : List Pair) where
  pub pairs_of : Each (λ p. p.greatest ≤ top) ps → Each (PairOf top ps) ps
  pairs_of = go ps (λ t s c w. works-each t s c ps w)
    where
      go : (qs : List Pair) → ((t s : ℕ) (c : List Bool) → works t s ps c ≡ true → Each (λ p. keeps t s p c ≡ true) qs)
          → Each (λ p. p.greatest ≤ top) qs → Each (PairOf top ps) qs
      go [] k u = tt
      go (q ∷ qs) k u = (record { kept = λ t s c w. (k t s c w).0; under = u.0 }, go qs (λ t s c w. (k t s c w).1) u.1)

  module _ (W : List ℕ) (s : Reaches top ps W) (p : Pair) (of : PairOf top ps p) where
    asks : (t : ℕ) (c : List Bool) → t ≤ top → works t (top - t) ps c ≡ true → Asks top t p (get_or c p.launch false) (get_or c p.capture false)
    asks t c h w = meets-asks top t p h of.under (get_or c p.launch false) (get_or c p.capture false) (of.kept t (top - t) c w)

    pub ahead-under : ahead top p W ≤ top
    ahead-under = omega (arith, of.under, s.under p.launch)

    pub behind-under : behind top p W ≤ top
    behind-under = omega (arith, s.under p.capture)

    -- a late launch is not early, a late capture neither
    not-early : (r t : ℕ) (c : List Bool) → works t (top - t) ps c ≡ true → t < reach_of W r → get_or c r false ≡ false → ⊥
    not-early r t c w h e = false≢true (sym e ∙ s.late r t h c w)

    -- Below the greatest delay, early, early and late, early break setup: the capture is late. Below half of top and the
    -- greatest delay late, early breaks setup: a late launch, by its reach, takes the capture with it.
    pub ahead-forces : Forces top ps p.capture (ahead top p W)
    ahead-forces t h c w = go (get_or c p.launch false) (get_or c p.capture false) refl refl (asks t c (omega (arith, ahead-under)) w)
      where
        go : (x y : Bool) → get_or c p.launch false ≡ x → get_or c p.capture false ≡ y → Asks top t p x y → get_or c p.capture false ≡ true
        go x true ex ey q = ey
        go false false ex ey q = absurd (not-early p.launch t c w (omega arith) ex)
        go true false ex ey q = absurd (omega (arith, of.under))

    -- Below top less the least delay, early, late breaks hold: a late capture, by its reach, takes the launch with it.
    pub behind-forces : Forces top ps p.launch (behind top p W)
    behind-forces t h c w = go (get_or c p.launch false) (get_or c p.capture false) refl refl (asks t c (omega (arith, behind-under)) w)
      where
        go : (x y : Bool) → get_or c p.launch false ≡ x → get_or c p.capture false ≡ y → Asks top t p x y → get_or c p.launch false ≡ true
        go true y ex ey q = ex
        go false true ex ey q = absurd (omega arith)
        go false false ex ey q = absurd (not-early p.capture t c w (omega arith) ey)

    -- below both its greatest delay and its launch's reach no split works: the launch would have to be early and is late
    none_below : (t : ℕ) → t < min (reach_of W p.launch) p.greatest → (c : List Bool) → works t (top - t) ps c ≡ true → ⊥
    none_below t h c w = go (get_or c p.launch false) (get_or c p.capture false) refl (asks t c (omega (arith, of.under)) w)
      where
        go : (x y : Bool) → get_or c p.launch false ≡ x → Asks top t p x y → ⊥
        go false y ex q = not-early p.launch t c w (omega arith) ex
        go true false ex q = omega (arith, of.under)
        go true true ex q = omega arith

    pub none-asked : NoneBelow top ps (min (reach_of W p.launch) p.greatest)
    none-asked = record { under = omega (arith, of.under); none = none_below }

    -- Late where the reach is above t: the rules of a closed pair are met, in each of the four cases. Were a choice broken,
    -- the pair would raise a reach past t that stands below it, or, with both ends late, ask for a longer period.
    closed-meets : (t : ℕ) → t ≤ top → ReachClosed top W p → min (reach_of W p.launch) p.greatest ≤ t
        → meets t (top - t) p (ltb t (reach_of W p.launch)) (ltb t (reach_of W p.capture)) ≡ true
    closed-meets t h closed b = asks-meets top t p h of.under (ltb t (reach_of W p.launch)) (ltb t (reach_of W p.capture)) (go _ _ refl refl)
      where
        go : (x y : Bool) → ltb t (reach_of W p.launch) ≡ x → ltb t (reach_of W p.capture) ≡ y → Asks top t p x y
        go false false ex ey = omega (arith, ltb-false, closed.capture)
        go false true ex ey = omega (arith, ltb-false, ltb-true, closed.launch)
        go true false ex ey = omega (arith, ltb-true, ltb-false, closed.capture)
        go true true ex ey = omega (arith, ltb-true)

-- ---- periods below which no split works

pub none-nought : (top : ℕ) (ps : List Pair) → NoneBelow top ps 0
none-nought top ps = record { under = zero-le; none = λ t l. absurd (omega arith) }

pub none-larger : {top : ℕ} {ps : List Pair} {v w : ℕ} → NoneBelow top ps v → NoneBelow top ps w → NoneBelow top ps (max v w)
none-larger {top} {ps} {v} {w} a b = record { under = omega (arith, a.under, b.under); none = λ t l c k. go t l c k (ltb t v) refl }
  where
    go : (t : ℕ) → t < max v w → (c : List Bool) → works t (top - t) ps c ≡ true → (x : Bool) → ltb t v ≡ x → ⊥
    go t l c k true e = a.none t (ltb-true t v e) c k
    go t l c k false e = b.none t (omega (arith, ltb-false t v e)) c k

-- ---- the period that reaches give

module _ (start : ℕ) (W : List ℕ) where
  pub period-from : (ps : List Pair) → start ≤ reach_period start ps W
  unfolding reach_period
  period-from [] = omega arith
  period-from (p ∷ ps) = omega (arith, period-from ps)

  period-upto : (top : ℕ) (ps : List Pair) → start ≤ top → Each (λ p. p.greatest ≤ top) ps → reach_period start ps W ≤ top
  unfolding reach_period
  period-upto top [] h u = h
  period-upto top (p ∷ ps) h u = omega (arith, u.0, period-upto top ps h u.1)

  -- no pair asks for more
  period-over : (ps : List Pair) (t : ℕ) → reach_period start ps W ≤ t → Each (λ p. min (reach_of W p.launch) p.greatest ≤ t) ps
  unfolding reach_period
  period-over [] t h = tt
  period-over (p ∷ ps) t h = (omega arith, period-over ps t (omega arith))

  -- and below it some pair lets no split work
  period-none : (top : ℕ) (ps qs : List Pair) → Reaches top ps W → Each (PairOf top ps) qs → (t : ℕ) → start ≤ t → t < reach_period start qs W
      → (c : List Bool) → works t (top - t) ps c ≡ true → ⊥
  unfolding reach_period
  period-none top ps [] s of t a b c w = omega arith
  period-none top ps (q ∷ qs) s of t a b c w = go (ltb t (min (reach_of W q.launch) q.greatest)) refl (λ l. period-none top ps qs s of.1 t a l c w)
    where
      go : (x : Bool) → ltb t (min (reach_of W q.launch) q.greatest) ≡ x → (t < reach_period start qs W → ⊥) → ⊥
      go true e later = none_below top ps W s q of.0 t (ltb-true t (min (reach_of W q.launch) q.greatest) e) c w
      go false e later = later (omega (arith, ltb-false t (min (reach_of W q.launch) q.greatest) e))

-- ---- the split that reaches give

pub length-late : (t : ℕ) (W : List ℕ) → length (late_above t W) ≡ length W
unfolding late_above
length-late t W = length-map W (ltb t)

pub late-at : (t : ℕ) (W : List ℕ) (r : ℕ) → get_or (late_above t W) r false ≡ ltb t (reach_of W r)
unfolding late_above
late-at t W r = ap (get_or (late_above t W) r) (sym (le-ltb t 0 (omega arith))) ∙ get_or-map (ltb t) W r 0

-- ---- reaches that rise no further

-- They give the two-timing period at once, without a search. From that period up the split that is late where the reach is
-- above t works (`late-works`), and every split that works is late there too (`late-least`), so it is the first; below,
-- some pair leaves no choice to any split (`none-shorter`). So it is the least period at which a split works.

module _ (n start top : ℕ) (ps : List Pair) (W : List ℕ) (size : length W ≡ n) (h : start ≤ top) (under : Each (λ p. p.greatest ≤ top) ps)
    (s : Reaches top ps W) (closed : Each (ReachClosed top W) ps) where
  abbrev two : ℕ
  two = reach_period start ps W

  -- the split that is late where the reach is above the period works, from that period up to top
  pub late-works : (t : ℕ) → two ≤ t → t ≤ top → works t (top - t) ps (late_above t W) ≡ true
  late-works t a b =
      each-works t (top - t) (late_above t W) ps
      (each-zip keep ps (each-zip (λ p of x. (of, x)) ps (pairs_of top ps under) closed) (period-over start W ps t a))
    where
      keep : (p : Pair) → PairOf top ps p × ReachClosed top W p → min (reach_of W p.launch) p.greatest ≤ t
          → keeps t (top - t) p (late_above t W) ≡ true
      keep p x o = rw (late-at t W p.launch, late-at t W p.capture) (closed-meets top ps W s p x.0 t b x.1 o)

  -- it is late only where every split that works is
  pub late-least : (t : ℕ) (c : List Bool) → works t (top - t) ps c ≡ true → NoLater (late_above t W) c
  late-least t c w r e = s.late r t (ltb-true t (reach_of W r) (sym (late-at t W r) ∙ e)) c w

  -- so it is the first
  pub late-first : (t : ℕ) → two ≤ t → t ≤ top → first_split n t (top - t) ps ≡ found (late_above t W)
  unfolding first_split
  late-first t a b =
      subst (λ (k : ℕ). first_of (works t (top - t) ps) (splits k) ≡ found (late_above t W)) (length-late t W ∙ size)
      (least_first (late_above t W) (works t (top - t) ps) (late-works t a b) (λ c l w. late-least t c w))

  -- below the period none works
  pub none-shorter : (t : ℕ) → start ≤ t → t < two → first_split n t (top - t) ps ≡ nothing
  none-shorter t a b = first-none n t (top - t) ps (period-none start W top ps ps s (pairs_of top ps under) t a b)

  -- so the period is the least
  pub two-is-least : IsLeast (λ t. split_works n t (top - t) ps) start top two
  unfolding split_works
  two-is-least =
      let upto : two ≤ top = period-upto start W top ps h under in
      record {
        from = period-from start W ps;
        upto = upto;
        passes = λ l. ap is_found (late-first two (omega arith) upto);
        before = λ t a b. ap is_found (none-shorter t a b);
      }

-- ---- reaches to start from

level-at : (k f r : ℕ) → reach_of (replicate k f) r ≤ f
level-at zero f r = zero-le
level-at (suc k) f zero = le_refl f
level-at (suc k) f (suc r) = level-at k f r

-- at periods below a bound of the free period no split works, for a split is a schedule: so the sweeps may start there
pub reaches-level : (top : ℕ) (ps : List Pair) (k f : ℕ) → f ≤ top → Bound ps (f + 1) → Reaches top ps (replicate k f)
unfolding works
reaches-level top ps k f h b =
    record {
      under = λ r. omega (arith, level-at k f r);
      late = λ r t l c w.
          let m = admissible→meets t ps (timings (top - t) c) w in
          let more = meets-longer (time (timings (top - t) c)) t (t + 1) (omega arith) ps m in
          absurd (omega (arith, level-at k f r, b.under (t + 1) (time (timings (top - t) c)) (omega arith) more));
    }
