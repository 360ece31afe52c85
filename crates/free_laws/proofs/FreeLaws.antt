-- What the free period and the free schedule are: the least of all.
-- The free period is the shortest whole period with a schedule: T_S of Kohira and Takahashi 2012, section 2.
use mathlib.Core.Bool.{true}
use mathlib.Core.List.{List, [], ◌∷◌}
use mathlib.Core.Path.{◌≡◌, refl, sym, ◌∙◌, subst}
use Prim.Native.Nat.{ℕ, zero, suc, ◌+◌, ◌-◌, ◌*◌, ◌≤◌}
use native.Mathlib.Nat.{le_refl, le_trans, add-zero}
use native.Mathlib.Omega.{arith}
use lib.ListN.{length}
use Rattle.timing.specs.declared.Pair.{Pair}
use Rattle.timing.specs.Rules.{time, Each, InRange}
use Rattle.timing.proofs.EachLaws.{each_map}
use Rattle.search.proofs.SearchLaws.{least-is-least, least-below, least-passes}
use Rattle.buffers.specs.Over.{zeros}
use Rattle.free_laws.specs.Free.{relax, round, rounds, free_at, free_works, common, free_period, free_schedule}
use Rattle.free_laws.specs.Constraint.{Meets, setup, hold, constraints, Least}
use Rattle.free_laws.specs.Raise.{Capped}
use Rattle.free_laws.proofs.ConstraintList.{each-rule, within, admissible→meets, meets→admissible}
use Rattle.free_laws.proofs.Sweep.{zeros-below, obey, sweep, sweeps}
use Rattle.free_laws.proofs.Least.{after, after-size, least-exists, bounded}
use Rattle.free_laws.proofs.Rounds.{settled}

-- ---- a round over the pairs is a round over their rules

relax-obey : (t : ℕ) (p : Pair) (x : List ℕ) → relax t p x ≡ obey (hold p) (obey (setup t p) x)
unfolding relax
relax-obey t p x = rw add-zero

round-sweep : (t : ℕ) (ps : List Pair) (x : List ℕ) → round t ps x ≡ sweep (constraints t ps) x
unfolding round sweep
round-sweep t [] x = refl
round-sweep t (p ∷ ps) x = rw (relax-obey t p x) (round-sweep t ps (obey (hold p) (obey (setup t p) x)))

rounds-sweeps : (k t : ℕ) (ps : List Pair) (x : List ℕ) → rounds k t ps x ≡ sweeps k (constraints t ps) x
unfolding rounds sweeps
rounds-sweeps zero t ps x = refl
rounds-sweeps (suc k) t ps x = rw (rounds-sweeps k t ps x) (round-sweep t ps (sweeps k (constraints t ps) x))

free-after : (n t : ℕ) (ps : List Pair) → free_at n t ps ≡ after (constraints t ps) n n
unfolding free_at
free-after n t ps = rounds-sweeps n t ps (zeros n)

-- ---- where some times meet the rules

module _ (n t : ℕ) (ps : List Pair) (w : Each (InRange n) ps) where
  pub length-free : length (free_at n t ps) ≡ n
  length-free = rw free-after (after-size (constraints t ps) n (within n t ps w) n)

  module _ (f : ℕ → ℕ) (m : Each (Meets f) (constraints t ps)) where
    -- n rounds find the least schedule: one exists (Least.`least-exists`), and n rounds come to it (Rounds.`settled`)
    pub free-is-least : Least (constraints t ps) n (free_at n t ps)
    free-is-least =
        let l = least-exists (constraints t ps) n (within n t ps w) f m in
        subst (Least (constraints t ps) n) (sym (free-after n t ps ∙ settled n (constraints t ps) (within n t ps w) n (omega arith) l.0 l.1)) l.1

    pub meets→works : free_works n t ps ≡ true
    unfolding free_works
    meets→works = meets→admissible t ps (free_at n t ps) free-is-least.meets

  -- no register is later than n - 1 of the largest steps: why the least schedule stays under the cap
  pub least-capped : {l : List ℕ} (c d : ℕ) → Each (λ p. p.greatest ≤ t + d) ps → (n - 1) * d ≤ c → Least (constraints t ps) n l → Capped c l
  least-capped {l} c d steps room least r =
      le_trans
      (bounded (constraints t ps) n l (within n t ps w) least d (each-rule (λ r. r.gain ≤ r.allowance + d) t (λ p h. (h, omega arith)) ps steps) r)
      room

pub works→meets : (n t : ℕ) (ps : List Pair) → free_works n t ps ≡ true → Each (Meets (time (free_at n t ps))) (constraints t ps)
unfolding free_works
works→meets n t ps e = admissible→meets t ps (free_at n t ps) e

-- ---- the common period

pub common-pos : (ps : List Pair) → 1 ≤ common ps
unfolding common
common-pos [] = le_refl 1
common-pos (p ∷ ps) = omega (arith, common-pos ps)

pub common-limit : (c : ℕ) → 1 ≤ c → (ps : List Pair) → Each (λ p. p.greatest ≤ c) ps → common ps ≤ c
unfolding common
common-limit c h [] steps = h
common-limit c h (p ∷ ps) steps = omega (arith, steps.0, common-limit c h ps steps.1)

zero-meets : (f : ℕ → ℕ) → ((r : ℕ) → f r ≤ 0) → (t : ℕ) (ps : List Pair) → common ps ≤ t → Each (Meets f) (constraints t ps)
unfolding common
zero-meets f z t [] h = tt
zero-meets f z t (p ∷ ps) h =
    let a = z p.launch in
    let b = z p.capture in
    (omega arith, (omega arith, zero-meets f z t ps (omega arith)))

-- all zero meets the rules there
pub common-meets : (n : ℕ) (ps : List Pair) → Each (Meets (time (zeros n))) (constraints (common ps) ps)
common-meets n ps = zero-meets (time (zeros n)) (zeros-below n (λ r. 0)) (common ps) ps (le_refl _)

-- ---- the free period

module _ (n : ℕ) (ps : List Pair) (w : Each (InRange n) ps) where
  pub period-works : free_works n (free_period n ps) ps ≡ true
  unfolding free_period
  period-works = least-passes (λ t. free_works n t ps) 1 (common ps) (common-pos ps) (meets→works n (common ps) ps w _ (common-meets n ps))

  -- no period from 1 up with an admissible schedule is shorter
  pub period-least : (t : ℕ) → 1 ≤ t → free_works n t ps ≡ true → free_period n ps ≤ t
  unfolding free_period
  period-least = least-below (λ t. free_works n t ps) 1 (common ps) (common-pos ps)

  pub period-pos : 1 ≤ free_period n ps
  unfolding free_period
  period-pos = (least-is-least (λ t. free_works n t ps) 1 (common ps) (common-pos ps)).from

  pub period-common : free_period n ps ≤ common ps
  unfolding free_period
  period-common = (least-is-least (λ t. free_works n t ps) 1 (common ps) (common-pos ps)).upto

-- no timing of the free schedule is later than so many of the longest steps as there are registers but one
pub free-capped : (n : ℕ) (ps : List Pair) → Each (InRange n) ps → (c d : ℕ) → Each (λ p. p.greatest ≤ d) ps → (n - 1) * d ≤ c
    → Capped c (free_schedule n ps)
unfolding free_schedule
free-capped n ps w c d steps room =
    let t : ℕ = free_period n ps in
    let l = free-is-least n t ps w (time (free_at n t ps)) (works→meets n t ps (period-works n ps w)) in
    least-capped n t ps w c d (each_map (λ p h. omega arith) ps steps) room l
