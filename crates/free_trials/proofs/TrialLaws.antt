-- Trials: what rounds from all zero keep, and what they end in.
-- Rounds in any order keep x no later than any times that meet the rules (`Under`), so an admissible x is the least schedule.
-- As many rounds over all pairs as there are registers come to the least schedule, where there is one (`Rounds`, of free_laws).
use Prim.Native.Nat.{ℕ, ◌+◌, ◌≤◌}
use Rattle.std.specs.Prelude.{Option, IfSome}
use Rattle.std.proofs.lemmas.Option.{IfSome_then}
use mathlib.Core.Bool.{true, false, false≢true}
use mathlib.Core.List.{List, ◌++◌, append-nil}
use mathlib.Core.Path.{◌≡◌, refl, ap, sym, ◌∙◌}
use native.Mathlib.Nat.{le_refl, le_trans}
use native.Mathlib.Numerals.{add-one}
use native.Mathlib.Omega.{arith}
use lib.ListN.{length, drop, replicate, length-replicate}
use lib.Seq.{drop-length}
use Rattle.timing.specs.Rules.{admissible, Each, InRange}
use Rattle.timing.specs.Limits.{max_period, max_timing}
use Rattle.list_format.specs.Lists.{registers, pairs, IsUsable, UsableList}
use Rattle.list_format.proofs.ListLaws.{few-registers, pairs-in-range, pairs-within, still-usable}
use Rattle.buffers.specs.Over.{zeros}
use Rattle.free_laws.specs.Constraint.{Meets, constraints, Below, Bound}
use Rattle.free_laws.specs.Raise.{Capped, Risen, RoundTo}
use Rattle.free_laws.proofs.ConstraintList.{within, admissible→meets, meets→admissible}
use Rattle.timing.proofs.EachLaws.{each_map}
use Rattle.free_laws.proofs.Sweep.{zeros-below}
use Rattle.free_laws.proofs.Least.{least-exists}
use Rattle.free_laws.proofs.Rounds.{rounds-start, rounds-turn, rounds-end}
use Rattle.free_laws.proofs.FreeLaws.{least-capped, common-limit}
use Rattle.free_laws.proofs.Bound.{bound-common, bound-next}
use Rattle.free_rounds.specs.Raise.{Raising}
use Rattle.free_trials.specs.Trial.{Trial, Judged, Tried, Sought, Trying}

-- ---- registers at 0

pub all-cleared : (x₀ : List ℕ) {x : List ℕ} → x ≡ replicate (length x₀) 0 ++ drop (length x₀) x₀ → x ≡ zeros (length x₀)
all-cleared x₀ e = e ∙ rw (drop-length x₀, append-nil)

module _ {ws : List ℕ} {n count t : ℕ} {x : List ℕ} (a : UsableList ws n count) (h : t ≤ max_period) (e : x ≡ zeros n) where
  -- they can be raised
  pub zeros-raise : Raising ws count t x
  zeros-raise =
      record {
        list = still-usable (ap length e ∙ length-replicate n 0) a;
        capped = rw e (zeros-below n (λ r. max_timing));
        period = h;
      }

  -- they are not raised yet
  pub zeros-risen : Risen max_timing (constraints t (pairs ws)) (zeros n) x
  zeros-risen = record { size = ap length e; capped = zeros-raise.capped; low = λ f m b. rw e b }

-- ---- a trial

bound-limit : (ws : List ℕ) {b : ℕ} → IsUsable ws → Bound (pairs ws) b → b ≤ max_period
bound-limit ws a h = le_trans (bound-common h) (common-limit max_period (omega arith) (pairs ws) (pairs-within ws a))

-- x is no later than any times that meet the rules at t
pub record Under (ws : List ℕ) (t : ℕ) (x : List ℕ) : Type 0 where
  pub size : length x ≡ registers ws
  pub capped : Capped max_timing x
  pub low : (f : ℕ → ℕ) → Each (Meets f) (constraints t (pairs ws)) → Below x f

pub under-turn : {ws : List ℕ} {t : ℕ} {x y : List ℕ} → Under ws t x → Risen max_timing (constraints t (pairs ws)) x y → Under ws t y
under-turn u o = record { size = o.size ∙ u.size; capped = o.capped; low = λ f m. o.low f m (u.low f m) }

pub trying-under : {ws : List ℕ} {t : ℕ} {x : List ℕ} {k : ℕ} → Trying ws t x k → Under ws t x
trying-under s = record { size = s.rounds.size; capped = s.capped; low = s.rounds.low }

module _ {ws : List ℕ} {count t : ℕ} {x₀ : List ℕ} (p : Trial ws count t x₀) where
  inside : Each (InRange (registers ws)) (pairs ws)
  inside = pairs-in-range ws p.list.usable

  pub trial-limit : t ≤ max_period
  trial-limit = bound-limit ws p.list.usable p.bound

  -- ---- schedules raised from all zero

  pub under-start : {x : List ℕ} → x ≡ zeros (length x₀) → Under ws t x
  under-start e =
      rw (e, p.list.registers_are)
      (record { size = length-replicate (registers ws) 0; capped = zeros-below (registers ws) (λ r. max_timing); low = λ f m. zeros-below (registers ws) f })

  pub under-risen : {y : List ℕ} → Risen max_timing (constraints t (pairs ws)) (zeros (length x₀)) y → Under ws t y
  under-risen o = under-turn (under-start refl) o

  module _ {x : List ℕ} (u : Under ws t x) where
    still-ready : UsableList ws (length x) count
    still-ready = record { usable = p.list.usable; registers_are = u.size; pairs_are = p.list.pairs_are }

    pub under-raises : Raising ws count t x
    under-raises = record { list = still-ready; capped = u.capped; period = trial-limit }

    pub under-judges : Trial ws count t x
    under-judges = record { list = still-ready; pos = p.pos; bound = p.bound }

    -- settled, or a longer period
    pub under-told : {r : ℕ} → Judged ws t x r → Tried ws t x r
    under-told j =
        record {
          onward = j.onward;
          bound = j.bound;
          shows = λ e. record { size = u.size; meets = admissible→meets t (pairs ws) x (j.shows e); below = u.low };
        }

    pub under-any : (o : Option ℕ) → IfSome o (Judged ws t x) → Sought ws t x o
    under-any o h = IfSome_then o h (λ r j. under-told j)

  -- ---- rounds over all pairs

  pub trying_start : {x : List ℕ} → x ≡ zeros (length x₀) → Trying ws t x 0
  trying_start e =
      rw (e, p.list.registers_are)
      (record {
        rounds = rounds-start (registers ws) (constraints t (pairs ws)) (within (registers ws) t (pairs ws) inside) max_timing;
        capped = zeros-below (registers ws) (λ r. max_timing);
      })

  module _ {x : List ℕ} {k : ℕ} (s : Trying ws t x k) where
    pub trying-turn : {y : List ℕ} → RoundTo max_timing (constraints t (pairs ws)) x y → Trying ws t y (k + 1)
    trying-turn o =
        record {
          rounds = rw add-one (rounds-turn (registers ws) (constraints t (pairs ws)) (within (registers ws) t (pairs ws) inside) s.rounds o.round);
          capped = o.capped;
        }

    -- as many rounds as registers
    module _ (all : length x ≤ k) where
      pub trying-passed : admissible t (pairs ws) x ≡ true → Tried ws t x t
      trying-passed e = under-told (trying-under s) (record { onward = le_refl t; bound = p.bound; shows = λ q. e })

      -- not admissible: no schedule at t. Times that met the rules would give a least schedule, which is within the limit of a
      -- timing (`least-capped`); so many rounds would have come to it (`rounds-end`), and it is admissible
      pub trying-failed : admissible t (pairs ws) x ≡ false → Tried ws t x (t + 1)
      trying-failed e = record { onward = omega arith; bound = bound-next p.bound none; shows = λ q. absurd (omega arith) }
        where
          none : (g : ℕ → ℕ) → Each (Meets g) (constraints t (pairs ws)) → ⊥
          none g m =
              let rs = constraints t (pairs ws) in
              let n = registers ws in
              let w = within n t (pairs ws) inside in
              let l = least-exists rs n w g m in
              let limits = pairs-within ws p.list.usable in
              let steps : Each (λ q. q.greatest ≤ t + max_period) (pairs ws) = each_map (λ q h. omega arith) (pairs ws) limits in
              let few = few-registers ws p.list in
              let cap = least-capped n t (pairs ws) inside max_timing max_period steps (omega (arith, few, p.list.registers_are)) l.1 in
              let same = rounds-end n rs w s.rounds (omega (arith, s.rounds.size)) l.0 cap l.1 in
              false≢true (sym e ∙ ap (admissible t (pairs ws)) same ∙ meets→admissible t (pairs ws) l.0 l.1.meets)
