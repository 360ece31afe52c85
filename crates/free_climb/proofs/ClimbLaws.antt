-- The loops of the climb: each invariant with what starts it, a turn of it, and what it ends in.
use Prim.Native.Nat.{ℕ, suc, ◌+◌, ◌-◌, ◌≤◌, ◌<◌, max, zero-le}
use mathlib.Core.List.{List}
use mathlib.Core.Logic.{◌⊎◌, inl, inr}
use mathlib.Core.Path.{◌≡◌, ◌∙◌, ap}
use native.Mathlib.Nat.{sub-zero}
use native.Mathlib.Omega.{arith}
use lib.ListN.{length}
use Rattle.timing.specs.declared.Pair.{Pair}
use Rattle.list_format.specs.Lists.{registers, pair_count, pair_at, pairs_from, pairs, IsPair, UsableList}
use Rattle.list_format.proofs.ListLaws.{pairs-in-range}
use Rattle.free_laws.specs.Free.{common}
use Rattle.free_laws.proofs.FreeLaws.{common-pos}
use Rattle.free_laws.specs.Constraint.{Bound}
use Rattle.free_laws.proofs.Bound.{bound-max, bound-period, bound-schedule}
use Rattle.free_rounds.proofs.RoundLaws.{rules-at}
use Rattle.free_trials.specs.Trial.{Trial, Tried}
use Rattle.free_climb.specs.declared.Ascent.{Ascent}
use Rattle.free_climb.specs.declared.Ascent.TheVariants.{Done, Onward, Undecided}
use Rattle.free_climb.specs.Climbed.{Alone, Climbed, Ascended}

-- ---- what pairs alone ask

-- of the first k pairs; what one pair alone asks bounds the period of the list, for its rules are among the list's (`rules-at`)
pub record Most (ws : List ℕ) (most k : ℕ) : Type 0 where
  pub place : k ≤ pair_count ws
  pub pos : 1 ≤ most
  pub bound : Bound (pairs ws) most

pub most-turn : {ws : List ℕ} {most k one next : ℕ} {p : Pair} → Most ws most k → k < pair_count ws → IsPair ws k p → Alone p one
    → next ≡ max most one → Most ws next (k + 1)
most-turn {ws} {most} {k} {one} {p = p} s h is told e =
    record { place = omega arith; pos = omega (arith, s.pos); bound = rw e (bound-max s.bound alone) }
  where
    alone : Bound (pairs ws) one
    alone =
        record {
          under = λ u f pos m.
              let both = rules-at is h u f m in
              told.under u (f p.launch) (f p.capture) (λ q. ap f q) both.0 (omega (arith, both.1));
        }

-- ---- the common period

-- the largest of the first k pairs, with those from place k on, gives the common period
pub record Largest (ws : List ℕ) (most k : ℕ) : Type 0 where
  pub place : k ≤ pair_count ws
  pub pos : 1 ≤ most
  pub same : max most (common (pairs_from ws k (pair_count ws - k))) ≡ common (pairs ws)

pub largest-start : {ws : List ℕ} → Largest ws 1 0
largest-start {ws} = record { place = zero-le; pos = omega arith; same = rw sub-zero (omega (arith, common-pos (pairs ws))) }

module _ {ws : List ℕ} {most k : ℕ} (l : Largest ws most k) where
  pub largest-turn : {next : ℕ} {p : Pair} → k < pair_count ws → IsPair ws k p → next ≡ max most p.greatest → Largest ws next (k + 1)
  unfolding pairs_from common
  largest-turn {next} {p} h is e =
      let left : pair_count ws - k ≡ suc (pair_count ws - (k + 1)) = omega arith in
      let split = rw left at l.same in
      let greatest : p.greatest ≡ (pair_at ws k).greatest = ap (λ (q : Pair). q.greatest) is.same in
      record { place = omega arith; pos = omega (arith, l.pos); same = omega (arith, split, greatest) }

  pub largest-end : pair_count ws ≤ k → most ≡ common (pairs ws)
  unfolding pairs_from common
  largest-end h =
      let none : pair_count ws - k ≡ 0 = omega arith in
      let all = rw none at l.same in
      omega (arith, all, l.pos)

-- ---- the climb

-- Below every period that is tried there is no schedule. A trial tells that period with its least schedule, and then it is the
-- free period (`trial-settled`); or a longer one, below which there is no schedule either, and that is tried next
-- (`trial-next`). At the common period all timings may be equal, so no such period is longer: the climb ends.

-- what trials come to: done with the free period, or a period to try
pub ascended-settled : {ws : List ℕ} {t : ℕ} {x : List ℕ} → Climbed ws x t → Ascended ws x (Done t)
ascended-settled {t = t} c =
    record {
      settled = λ u e. let same : t ≡ u = cc in rw (← same) c;
      onward = λ u e. let z : ◌≡◌ {A = ℕ} 0 1 = cc in absurd (omega arith);
      undecided = λ u e. let z : ◌≡◌ {A = ℕ} 0 1 = cc in absurd (omega arith);
    }

module _ {ws : List ℕ} {count t : ℕ} {x : List ℕ} (p : Trial ws count t x) where
  pub ascended-undecided : Ascended ws x (Undecided t)
  ascended-undecided =
      record {
        settled = λ v e. let z : ◌≡◌ {A = ℕ} 0 1 = cc in absurd (omega arith);
        onward = λ v e. let z : ◌≡◌ {A = ℕ} 0 1 = cc in absurd (omega arith);
        undecided = λ v e. let same : t ≡ v = cc in rw (← same) (p.pos, p.bound);
      }

  pub ascended-onward : Ascended ws x (Onward t)
  ascended-onward =
      record {
        settled = λ v e. let z : ◌≡◌ {A = ℕ} 0 1 = cc in absurd (omega arith);
        onward = λ v e. let same : t ≡ v = cc in rw (← same) (p.pos, p.bound);
        undecided = λ v e. let z : ◌≡◌ {A = ℕ} 0 1 = cc in absurd (omega arith);
      }

-- ---- from trials to others

-- a longer period was shown, or none
pub trial-longer : {ws : List ℕ} {count s b t : ℕ} {x : List ℕ} → Trial ws count s x → Bound (pairs ws) b → t ≡ max s b → Trial ws count t x
trial-longer p h q = record { list = p.list; pos = omega (arith, p.pos, q); bound = rw q (bound-max p.bound h) }

module _ {ws : List ℕ} {n count : ℕ} (r : UsableList ws n count) where
  -- a trial of u, with other times
  pub trial-of : {u : ℕ} {x : List ℕ} → length x ≡ registers ws → 1 ≤ u → Bound (pairs ws) u → Trial ws count u x
  trial-of e pos b = record { list = record { usable = r.usable; registers_are = e; pairs_are = r.pairs_are }; pos = pos; bound = b }

module _ {ws : List ℕ} {count s : ℕ} {x y : List ℕ} (p : Trial ws count s x) (e : length y ≡ length x) where
  other : {u : ℕ} → 1 ≤ u → Bound (pairs ws) u → Trial ws count u y
  other pos b = trial-of p.list (e ∙ p.list.registers_are) pos b

  pub trial-kept : Trial ws count s y
  trial-kept = other p.pos p.bound

  module _ {o : Ascent} (a : Ascended ws y o) where
    pub trial-onward : {t : ℕ} → o ≡ Onward t → Trial ws count t y
    trial-onward q =
        let u = a.onward _ q in
        other u.0 u.1

    pub trial-undecided : {t : ℕ} → o ≡ Undecided t → Trial ws count t y
    trial-undecided q =
        let u = a.undecided _ q in
        other u.0 u.1

    pub trial-left : {t : ℕ} → (o ≡ Onward t) ⊎ (o ≡ Undecided t) → Trial ws count t y
    trial-left (inl q) = trial-onward q
    trial-left (inr q) = trial-undecided q

  module _ {told : ℕ} (h : Tried ws s y told) where
    -- a longer period was told
    pub trial-next : Trial ws count told y
    trial-next = other (omega (arith, p.pos, h.onward)) h.bound

    -- the period itself was told: it is the free period
    pub trial-settled : told ≡ s → Climbed ws y s
    trial-settled same =
        let w = pairs-in-range ws p.list.usable in
        let least = h.shows same in
        record {
          period = bound-period (registers ws) (pairs ws) w p.pos p.bound least;
          schedule = bound-schedule (registers ws) (pairs ws) w p.pos p.bound least;
        }
