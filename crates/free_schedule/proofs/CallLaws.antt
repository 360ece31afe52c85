-- The places that are lent and come back filled, and the answer case by case.
-- The free schedule passes a check at the free period: it is admissible, that period is no longer than the common one, and no
-- timing is later than a longest period for each register but one (`free-capped`).
use Prim.Native.Nat.{ℕ, ◌≤◌, ◌<◌}
use mathlib.Core.List.{List, [], ◌∷◌, ◌++◌}
use mathlib.Core.Path.{◌≡◌, ap, sym, ◌∙◌}
use native.Mathlib.Nat.{le_trans}
use native.Mathlib.Omega.{arith}
use borrow.Author.Tests.{lt-ltb, le-ltb}
use lib.ListN.{length, take, drop}
use lib.Seq.{length-take-le, take_at}
use Rattle.timing.specs.Rules.{Each, InRange}
use Rattle.timing.specs.Limits.{max_period, max_timing}
use Rattle.std.specs.Prelude.{Ok, Err}
use Rattle.refusals.specs.Checks.{number_of, refused_at}
use Rattle.refusals.specs.declared.Refused.{Refused}
use Rattle.refusals.specs.declared.Refusal.TheVariants.{Room}
use Rattle.refusals.specs.Reply.{refused, done, reply_of, buffer_after}
use Rattle.refusals.proofs.ReplyLaws.{one-fails, one_passes, first-refused, then-refused, then-done}
use Rattle.list_format.specs.Lists.{registers, pairs, list_checks, verdict, accepted, IsAccepted, AcceptedList, UsableList}
use Rattle.list_format.proofs.ListLaws.{refused→fault, accepted→none, pairs-in-range, pairs-within, few-registers, still-usable}
use Rattle.free_laws.specs.Free.{common, free_period, free_schedule}
use Rattle.free_laws.specs.Unbeaten.{UnbeatenFree}
use Rattle.free_laws.proofs.FreeLaws.{common-limit, period-common, free-capped}
use Rattle.free_laws.proofs.UnbeatenLaws.{free-unbeaten}
use Rattle.checker.specs.Check.{Passes}
use Rattle.checker.proofs.CheckLaws.{admissible-passes, passes-as}
use Rattle.free_climb.specs.Climbed.{Climbed}
use Rattle.free_schedule.specs.FreeCall.{freeing, Freed, free_reply, FreeAs, Roomy, FreeIn}

-- ---- the free schedule, brought to a check at the free period

module _ {ws : List ℕ} {n m : ℕ} (l : UsableList ws n m) where
  inside : Each (InRange (registers ws)) (pairs ws)
  inside = pairs-in-range ws l.usable

  steps : Each (λ p. p.greatest ≤ max_period) (pairs ws)
  steps = pairs-within ws l.usable

  unbeaten-free : UnbeatenFree (registers ws) (pairs ws) (free_period (registers ws) (pairs ws)) (free_schedule (registers ws) (pairs ws))
  unbeaten-free = free-unbeaten (registers ws) (pairs ws) inside

  -- the common period is in range
  pub common-upto : common (pairs ws) ≤ max_period
  common-upto = common-limit max_period (omega arith) (pairs ws) steps

  pub free-passes : IsAccepted ws → Passes ws (free_period (registers ws) (pairs ws)) (free_schedule (registers ws) (pairs ws))
  free-passes a =
      admissible-passes ws _ _ a unbeaten-free.from_one
      (le_trans (period-common (registers ws) (pairs ws) inside) common-upto)
      unbeaten-free.size
      (free-capped (registers ws) (pairs ws) inside max_timing max_period steps (omega (arith, few-registers ws l, l.registers_are)))
      unbeaten-free.meets

-- ---- the call

-- a place for each register: they are lent to the climb and come back filled
module _ {ws : List ℕ} {n count : ℕ} {was : List ℕ} (r : Roomy ws n count was) where
  pub lent-size : n ≡ length (take n was)
  lent-size = sym (length-take-le n was r.room)

  pub lent-ready : UsableList ws (length (take n was)) count
  lent-ready = still-usable (sym lent-size) r.list

  -- what was lent comes back filled
  pub lent_back : {x : List ℕ} {t : ℕ} → Climbed ws x t → FreeIn ws was (x ++ drop n was) t
  lent_back c =
      record {
        period = c.period;
        places = rw (c.schedule, (unbeaten-free r.list).size, r.list.registers_are);
      }

  done-is : IsAccepted ws
      → freeing ws (length was) ≡ done (common (pairs ws) ∷ free_period (registers ws) (pairs ws) ∷ []) (free_schedule (registers ws) (pairs ws))
  unfolding freeing
  done-is a =
      let room : registers ws ≤ length was = omega (arith, r.room, r.list.registers_are) in
      then-done (list_checks ws) _ _ (accepted→none ws a).none (one_passes Room 0 (le-ltb _ _ room))

  -- the answer, with a place for each register
  module _ (a : IsAccepted ws) {common' free : ℕ} {now : List ℕ} (c : common' ≡ common (pairs ws)) (f : FreeIn ws was now free) where
    front : take (registers ws) now ≡ free_schedule (registers ws) (pairs ws)
    front = ap (take (registers ws)) f.places ∙ take_at (free_schedule (registers ws) (pairs ws)) _ (registers ws) (unbeaten-free r.list).size

    free_in : ℕ → Freed → ℕ
    free_in other (Ok p) = p.free
    free_in other (Err r) = other

    pub settled : FreeAs ws was now (Ok (record { common = common'; free = free }))
    unfolding reply_of buffer_after free_reply free_in
    settled =
        record {
          reply = rw (done-is a, c, f.period);
          stored = rw (done-is a) f.places;
          unbeaten = λ p q. let z : p.free ≡ free = sym (ap (free_in 0) q) in rw (z ∙ f.period, front) (unbeaten-free r.list);
          passes = λ p q. let z : p.free ≡ free = sym (ap (free_in 0) q) in passes-as ws (z ∙ f.period) front (free-passes r.list a);
        }

module _ (ws was : List ℕ) where
  -- a refusal changes nothing
  refuses : {r : Refused} → freeing ws (length was) ≡ refused (number_of r.refusal) r.place → FreeAs ws was was (Err r)
  unfolding reply_of buffer_after free_reply
  refuses e =
      record {
        reply = rw e;
        stored = rw e;
        unbeaten = λ p q. let z : ◌≡◌ {A = ℕ} 0 1 = cc in absurd (omega arith);
        passes = λ p q. let z : ◌≡◌ {A = ℕ} 0 1 = cc in absurd (omega arith);
      }

  -- the list is refused
  pub list-stops : {r : Refused} → verdict ws ≡ Err r → FreeAs ws was was (Err r)
  unfolding freeing
  list-stops e = refuses (first-refused (list_checks ws) _ _ (refused→fault ws e))

  -- too few places
  pub too_small : {n count : ℕ} → IsAccepted ws → UsableList ws n count → length was < n → FreeAs ws was was (Err (refused_at Room 0))
  unfolding freeing
  too_small a l h =
      let small : length was < registers ws = omega (arith, l.registers_are) in
      refuses (then-refused (list_checks ws) _ _ (accepted→none ws a).none (one-fails (lt-ltb _ _ small)))

-- enough places
pub roomy : {ws was : List ℕ} {n count : ℕ} → UsableList ws n count → n ≤ length was → Roomy ws n count was
roomy l h = record { list = l; room = h }

pub list_counts : (ws : List ℕ) {n m : ℕ} → verdict ws ≡ accepted n m → AcceptedList ws n m
list_counts ws e = (accepted→none ws e).list
