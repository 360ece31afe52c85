-- The pairs of a list one by one: what the sweeps, the period and the split's timings keep from turn to turn.
-- A step raises both ends of a pair to what it forces, so that reaches stay reaches. It tells that nothing rose, and then the pair
-- is closed, or that there is less left to rise. Steps make one step (`step_then`), so a sweep is built up pair by pair; one
-- where nothing rose leaves all pairs closed at the same reaches, and the others come to an end.
use mathlib.Core.Path.{◌≡◌, refl, ap, sym, ◌∙◌, subst}
use mathlib.Core.Bool.{Bool, true, false, ◌||◌, true≢false}
use mathlib.Core.List.{List, [], ◌∷◌, ◌++◌, append-nil}
use Prim.Native.Nat.{ℕ, suc, ◌+◌, ◌-◌, ◌*◌, ◌≤◌, ◌<◌, max, min, zero-le}
use native.Mathlib.Nat.{le_refl, sub-zero}
use native.Mathlib.Omega.{arith}
use lib.Dec.{ltb}
use lib.ListN.{length, get_or, take, drop, set, replicate, length-replicate, length-map, drop_of_length-le}
use lib.Seq.{ext_get_or}
use borrow.Author.Count.{below_more}
use Rattle.buffers.specs.Run.{run}
use Rattle.buffers.specs.Over.{over}
use Rattle.buffers.proofs.FillLaws.{Filling, filled-later, filling-size, filling-turn, filling-end, set-put}
use Rattle.buffers.proofs.RunLaws.{run_length, run_at}
use Rattle.timing.specs.declared.Pair.{Pair}
use Rattle.timing.specs.Limits.{max_period}
use Rattle.list_format.specs.Lists.{registers, pair_count, pair_at, pairs_from, pairs, place_of, IsPair, UsableList}
use Rattle.list_format.proofs.ListLaws.{each-pair, pairs-within, pair-holds, each-place, still-usable}
use Rattle.free_laws.specs.Free.{common}
use Rattle.free_laws.specs.Constraint.{Bound}
use Rattle.free_laws.proofs.Bound.{bound-common}
use Rattle.free_laws.proofs.FreeLaws.{common-limit}
use Rattle.split_laws.specs.Split.{time_of, timings}
use Rattle.split_laws.proofs.ClosureLaws.{time-of}
use Rattle.plan_laws.specs.Plan.{two_period}
use Rattle.plan_laws.specs.Reach.{reach_of, ReachClosed, reach_period, late_above, ahead, behind, Raised, room, NoneBelow, ReachTold, ReachStep}
use Rattle.plan_laws.proofs.OffsetLaws.{below-common}
use Rattle.plan_laws.proofs.ReachLaws.{PairOf, pairs_of, period-from, none-asked, none-nought, none-larger, length-late, late-at, reaches-level}
use Rattle.plan_laws.proofs.StepLaws.{step-none, step_then, step-with, step-lift, step-ahead, step-behind, pair_step}
use Rattle.plan_laws.proofs.ReachTwo.{period-is, timings-are}
use Rattle.reach.specs.Settling.{PairReaching, Reaching, Guided, ClosedAt, ClosedAll, Swept, Reached}

-- ---- one pair

module _ {ws : List ℕ} {count top : ℕ} {W : List ℕ} (r : Reaching ws count top W) where
  -- the same list with other reaches
  pub reaching-then : {D : List ℕ → Type 0} {W' : List ℕ} {o : Bool} → ReachStep top (pairs ws) D W W' o → Reaching ws count top W'
  reaching-then h =
      record {
        list = still-usable h.size r.list;
        top_is = r.top_is;
        reaches = h.reaches;
      }

  pub same_size : {W' : List ℕ} → Reaching ws count top W' → length W' ≡ length W
  same_size r' = r'.list.registers_are ∙ sym r.list.registers_are

  pub guided-start : Guided ws count top W 0
  guided-start = record { reaching = r; none = none-nought top (pairs ws) }

  -- each register raised to a period below which no split works
  pub lifted : {v x : ℕ} {W' : List ℕ} {o : Bool} → NoneBelow top (pairs ws) v → x < length W → Raised x v W W' o → Reaching ws count top W'
  lifted n l a = reaching-then (step-lift n l r.reaches a)

  module _ {k : ℕ} {p : Pair} (is : IsPair ws k p) (h : k < pair_count ws) where
    pub pair_of : PairOf top (pairs ws) p
    pair_of =
        rw is.same
        (pair-holds ws (PairOf top (pairs ws)) (pairs_of top (pairs ws) (below-common (pairs ws) top (omega (arith, r.top_is)))) k h)

    pub pair-raisable : PairReaching p top W
    pair-raisable =
        record {
          inside = record { launch = rw r.list.registers_are is.values.launch; capture = rw r.list.registers_are is.values.capture };
          order = omega (arith, is.values.order, pair_of.under);
          under = pair_of.under;
          limit = omega (arith, r.top_is, common-limit max_period (omega arith) (pairs ws) (pairs-within ws r.list.usable));
        }

    -- below what it asks for no split works
    pub pair-asked : {one : ℕ} → one ≡ min (reach_of W p.launch) p.greatest → Guided ws count top W one
    pair-asked e = record { reaching = r; none = rw e (none-asked top (pairs ws) W r.reaches p pair_of) }

    -- one of its ends raised
    pub pair-ahead : {W' : List ℕ} {x : Bool} → Raised p.capture (ahead top p W) W W' x → Reaching ws count top W'
    pair-ahead a = reaching-then (step-ahead pair_of pair-raisable.inside r.reaches a)

    pub pair-behind : {W' : List ℕ} {x : Bool} → Raised p.launch (behind top p W) W W' x → Reaching ws count top W'
    pair-behind a = reaching-then (step-behind pair_of pair-raisable.inside r.reaches a)

    -- both its ends raised
    pub pair-stepped : {M W' : List ℕ} {x y o : Bool} → Raised p.capture (ahead top p W) W M x → Raised p.launch (behind top p M) M W' y
        → o ≡ (x || y) → ReachStep top (pairs ws) (ClosedAt ws top k) W W' o
    pair-stepped a b e =
        step-with (λ d. subst (λ (q : Pair). ReachClosed top W q) is.same d) (pair_step pair_of pair-raisable.inside r.reaches a b e)

pub raisable-kept : {p : Pair} {top : ℕ} {W W' : List ℕ} → PairReaching p top W → length W' ≡ length W → PairReaching p top W'
raisable-kept a e =
    record { inside = record { launch = rw e a.inside.launch; capture = rw e a.inside.capture }; order = a.order; under = a.under; limit = a.limit }

-- the longer of two periods below which no split works
pub guided-more : {ws : List ℕ} {count top : ℕ} {W W' : List ℕ} {most one next : ℕ} → Guided ws count top W most → Guided ws count top W' one
    → next ≡ max most one → Guided ws count top W' next
guided-more g h e = record { reaching = h.reaching; none = rw e (none-larger g.none h.none) }

-- ---- sweeps

-- the pairs at the first i places of a walk raise no reach further
abbrev pub ReachClosedTo : List ℕ → ℕ → Bool → ℕ → List ℕ → Type 0
ReachClosedTo ws top down i W = (j : ℕ) → j < i → ClosedAt ws top (place_of (pair_count ws) down j) W

-- i turns of a sweep
pub record Sweeping (ws : List ℕ) (count top : ℕ) (down : Bool) (W W' : List ℕ) (moved : Bool) (i : ℕ) : Type 0 where
  pub bound : i ≤ count
  pub step : ReachStep top (pairs ws) (ReachClosedTo ws top down i) W W' moved

module _ {ws : List ℕ} {count top : ℕ} {W : List ℕ} (r : Reaching ws count top W) where
  pub sweeping-start : (down : Bool) → Sweeping ws count top down W W false 0
  sweeping-start down = record { bound = zero-le; step = step-none r.reaches (λ j l. absurd (omega arith)) }

  module _ {down : Bool} {W' : List ℕ} {moved : Bool} {i : ℕ} (s : Sweeping ws count top down W W' moved i) where
    pub sweeping-turn : {k : ℕ} {W'' : List ℕ} {o moved' : Bool} → i < count → k ≡ place_of count down i
        → ReachStep top (pairs ws) (ClosedAt ws top k) W' W'' o → moved' ≡ (moved || o) → Sweeping ws count top down W W'' moved' (i + 1)
    sweeping-turn {k} l at h e =
        let place : k ≡ place_of (pair_count ws) down i = at ∙ ap (λ m. place_of m down i) r.list.pairs_are in
        record {
          bound = omega arith;
          step = step-with (λ d. below_more (λ j. ClosedAt ws top (place_of (pair_count ws) down j) W) i d.0 (rw place at d.1)) (step_then e s.step h);
        }

    pub sweeping-end : count ≤ i → ReachStep top (pairs ws) (ClosedAll ws top) W W' moved
    sweeping-end l = step-with (λ d. each-place (λ k. ClosedAt ws top k W) (pair_count ws) down (λ j h. d j (omega (arith, r.list.pairs_are)))) s.step

  -- a sweep that raised nothing
  pub swept : {W' : List ℕ} {o : Bool} → ReachStep top (pairs ws) (ClosedAll ws top) W W' o → o ≡ false → Swept ws count top W'
  swept {W'} {o} h e = record { reaching = reaching-then r h; closed = go o e h.told }
    where
      go : (o : Bool) → o ≡ false → ReachTold o top (ClosedAll ws top) W W' → ClosedAll ws top W'
      go false e x = rw x.0 x.1
      go true e x = absurd (true≢false e)

-- a sweep that raised something leaves less to rise
pub sweep-less : {top : ℕ} {ps : List Pair} {D : List ℕ → Type 0} {W W' : List ℕ} {o : Bool} → ReachStep top ps D W W' o
    → o ≡ true → room top W' < room top W
sweep-less {top} {ps} {D} {W} {W'} {o} h e = go o e h.told
  where
    go : (o : Bool) → o ≡ true → ReachTold o top D W W' → room top W' < room top W
    go true e x = x
    go false e x = absurd (true≢false (sym e))

-- ---- the period

-- the longest that the first k pairs ask for, with those from place k on, gives the period: a maximum, taken over pair by pair
pub record Asked (ws W : List ℕ) (most k : ℕ) : Type 0 where
  pub place : k ≤ pair_count ws
  pub pos : 1 ≤ most
  pub same : max most (reach_period 1 (pairs_from ws k (pair_count ws - k)) W) ≡ reach_period 1 (pairs ws) W

pub asked-start : {ws W : List ℕ} → Asked ws W 1 0
asked-start {ws} {W} = record { place = zero-le; pos = le_refl 1; same = rw sub-zero (omega (arith, period-from 1 W (pairs ws))) }

module _ {ws W : List ℕ} {most k : ℕ} (a : Asked ws W most k) where
  pub asked-turn : {one next : ℕ} {p : Pair} → k < pair_count ws → IsPair ws k p → one ≡ min (reach_of W p.launch) p.greatest
      → next ≡ max most one → Asked ws W next (k + 1)
  unfolding pairs_from reach_period
  asked-turn {one} {next} {p} h is e f =
      let left : pair_count ws - k ≡ suc (pair_count ws - (k + 1)) = omega arith in
      let split = rw left at a.same in
      let here : one ≡ min (reach_of W (pair_at ws k).launch) (pair_at ws k).greatest = rw is.same at e in
      record { place = omega arith; pos = omega (arith, a.pos); same = omega (arith, split, here) }

  pub asked-end : pair_count ws ≤ k → most ≡ reach_period 1 (pairs ws) W
  unfolding pairs_from reach_period
  asked-end h =
      let none : pair_count ws - k ≡ 0 = omega arith in
      let all = rw none at a.same in
      omega (arith, all, a.pos)

-- ---- from equal reaches to the period and its split

-- At a period of `floor` or less no times meet the rules, so no split works: `floor` is a reach of every register. Reaches that no
-- pair raises further give the two-timing period and its split (ReachTwo, of plan_laws).
module _ {ws : List ℕ} {count top : ℕ} (floor : ℕ) (W : List ℕ) (list : UsableList ws (length W) count)
    (e : top ≡ common (pairs ws)) (b : Bound (pairs ws) (floor + 1)) where
  pub reaching-start : {W' : List ℕ} → W' ≡ replicate (length W) floor ++ drop (length W) W → Reaching ws count top W'
  reaching-start {W'} levelled =
      record {
        list = still-usable (ap length level ∙ length-replicate (length W) floor) list;
        top_is = e;
        reaches = rw level (reaches-level top (pairs ws) (length W) floor (omega (arith, e, bound-common b)) b);
      }
    where
      level : W' ≡ replicate (length W) floor
      level = levelled ∙ rw (drop_of_length-le W {i = length W} (le_refl _), append-nil)

pub reached : {ws : List ℕ} {count top : ℕ} {W : List ℕ} {two : ℕ} → Swept ws count top W → two ≡ reach_period 1 (pairs ws) W → Reached ws W two
reached {ws} {count} {top} {W} {two} s e =
    let r = s.reaching in
    let reaches = rw r.top_is at r.reaches in
    let closed = each-pair ws (ReachClosed (common (pairs ws)) W) (λ k h. rw r.top_is at (s.closed k h)) in
    let period : two ≡ two_period (registers ws) (pairs ws) = e ∙ period-is (registers ws) (pairs ws) W r.list.registers_are reaches closed in
    record { period = period; split = rw period (timings-are (registers ws) (pairs ws) W r.list.registers_are reaches closed); size = r.list.registers_are }

-- ---- the split's timings, one by one

-- the timing of register k
abbrev pub times : ℕ → ℕ → List ℕ → ℕ → List ℕ
times s two W k = time_of s (ltb two (get_or W k 0)) ∷ []

pub split-run : (s two : ℕ) (W : List ℕ) → run (times s two W) (length W) ≡ timings s (late_above two W)
split-run s two W = ext_get_or 0 _ _ (size ∙ sym sizes) each
  where
    size : length (run (times s two W) (length W)) ≡ length W
    size = run_length (times s two W) 1 (λ k. refl) (length W) ∙ omega arith

    sizes : length (timings s (late_above two W)) ≡ length W
    sizes = length-map (late_above two W) (time_of s) ∙ length-late two W

    each : (i : ℕ) → i < length (run (times s two W) (length W)) → get_or (run (times s two W) (length W)) i 0 ≡ get_or (timings s (late_above two W)) i 0
    each i l =
        let e : 1 * i + 0 ≡ i = omega arith in
        (rw e at (run_at (times s two W) 1 (λ k. refl) (length W) i 0 (omega (arith, size)) (omega arith)))
        ∙ sym (time-of s (late_above two W) i ∙ ap (time_of s) (late-at two W i))

-- those before place i are stored, each from the reach that stood in its place
pub split-turn : (s two : ℕ) {W W' : List ℕ} {i v : ℕ} → Filling [] (times s two W) (length W) W W' i → i < length W
    → v ≡ time_of s (ltb two (get_or W' i 0)) → Filling [] (times s two W) (length W) W (set W' i v) (i + 1)
split-turn s two {W} {W'} {i} {v} f below e =
    let h : i < length W' = omega (arith, filling-size f) in
    let size = run_length (times s two W) 1 (λ k. refl) i in
    let stood : get_or W' i 0 ≡ get_or W i 0 = filled-later f.filled i (omega (arith, size)) in
    filling-turn 1 (λ k. refl) (omega arith) f below i (omega arith)
    (set-put W' i v h ∙ ap (λ (u : ℕ). take i W' ++ ((u ∷ []) ++ drop (i + 1) W')) (e ∙ ap (λ (u : ℕ). time_of s (ltb two u)) stood))

-- all of them are stored
pub split-end : (s two : ℕ) (W W' : List ℕ) {i : ℕ} → Filling [] (times s two W) (length W) W W' i → length W ≤ i
    → W' ≡ timings s (late_above two W)
split-end s two W W' f h =
    let all : List ℕ = timings s (late_above two W) in
    let size : length all ≡ length W = length-map (late_above two W) (time_of s) ∙ length-late two W in
    filling-end f h
    ∙ ap (λ (ts : List ℕ). over ts W) (split-run s two W)
    ∙ ap (λ (rest : List ℕ). all ++ rest) (drop_of_length-le W {i = length all} (omega (arith, size)))
    ∙ append-nil all
