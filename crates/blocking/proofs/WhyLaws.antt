-- The ways that a call can end, each with the whole promise.
-- A refusal changes nothing. Where no pair clashes, late where the forest is and early elsewhere is a split that works; where one clashes, its
-- two chains block the period, so no split works.
use Prim.Native.Nat.{ℕ, ◌+◌, ◌-◌, ◌*◌, ◌/◌, ◌%◌, ◌≤◌, ◌<◌}
use mathlib.Core.Bool.{Bool, true, false, not}
use mathlib.Core.List.{List, [], ◌++◌, map}
use mathlib.Core.Path.{◌≡◌, refl, ap, sym, ◌∙◌, subst}
use native.Mathlib.Omega.{arith}
use lib.Dec.{ltb}
use lib.ListN.{length, get_or, take, drop, replicate, length-replicate, length-map, get_or-map}
use lib.Seq.{get_or-take, length-take-le}
use borrow.Author.Tests.{ltb-true, ltb-false, eqb-false}
use Rattle.buffers.specs.Over.{over}
use Rattle.buffers.proofs.PadLaws.{zero-at}
use Rattle.buffers.proofs.FillLaws.{drop-further}
use Rattle.std.specs.Prelude.{Some, None, Ok, Err}
use Rattle.refusals.specs.Checks.{Fault, no_fault, number_of, first_fault}
use Rattle.refusals.specs.Reply.{refused, reply_of, buffer_after, scratch_after}
use Rattle.refusals.specs.declared.Refused.{Refused}
use Rattle.refusals.proofs.CheckLaws.{pass-both, passed}
use Rattle.refusals.proofs.ReplyLaws.{answered-done, first-refused, then-refused}
use Rattle.timing.specs.Limits.{per_pair, scratch_places}
use Rattle.list_format.specs.Lists.{registers, pair_count, pair_at, pairs, list_checks, verdict, accepted, UsableList}
use Rattle.list_format.proofs.ListLaws.{refused→fault, accepted→none, usable-list, each-pair}
use Rattle.free_laws.specs.Free.{common}
use Rattle.split_laws.specs.Split.{meets, works}
use Rattle.split_laws.specs.Choices.{broken_row}
use Rattle.split_laws.specs.Marks.{keeps}
use Rattle.split_laws.proofs.ClosureLaws.{each-works}
use Rattle.split_laws.proofs.FoundLaws.{works→there}
use Rattle.plan_laws.specs.Plan.{two_works}
use Rattle.chain_laws.specs.Chains.{Chains, Blocks}
use Rattle.chain_laws.proofs.BlockLaws.{blocks-two, blocks-rival}
use Rattle.propagate.specs.Store.{flags_from, Recorded, Lent, Prepared}
use Rattle.propagate.proofs.StoreLaws.{lent-kept}
use Rattle.forced_late.specs.Forest.{early_early, early_late, late_early, late_late, depth_of, IsBroken, AllForce, IsSeeded, Blank, ForcedLate, Clashes}
use Rattle.forced_late.proofs.ForestLaws.{ends-in}
use Rattle.blocking.specs.declared.Blocked.{Blocked}
use Rattle.blocking.specs.Paths.{chains_of, Clashing}
use Rattle.blocking.specs.Blocking.{why_call_checks, why_checks, why_outcome, why_not, Reason, blocked_by}
use Rattle.blocking.specs.Blocking.{why_reply, BlockedBy, WhyAs, Ready, ChainsIn, WhyAllowed}
use Rattle.blocking.proofs.StepLaws.{broken-recorded}
use Rattle.blocking.proofs.ChainsLaws.{chains-block}

-- ---- the forest, and the split that it gives

pub prepared-blank : {ws : List ℕ} {t s n m : ℕ} {S S' : List ℕ} → Lent ws n m S → Prepared t s ws n S S' → Blank ws n m S'
prepared-blank {ws} {t} {s} {n} {m} {S} {S'} l p = record {
  lent = lent-kept l p.size;
  blank = λ r h. sym (get_or-take n S' r 0 h) ∙ (ap (λ (x : List ℕ). get_or x r 0) p.blank ∙ zero-at n r);
}

pub made-ready : {ws : List ℕ} {t n : ℕ} {S S' S'' : List ℕ} → Prepared t (common (pairs ws) - t) ws n S S' → ForcedLate ws n S' S''
    → Ready ws t n S S''
made-ready {ws} {t} {n} {S} {S'} {S''} p f = record {
  size = f.grew.size ∙ p.size;
  rest = drop-further (2 * n) (scratch_places n (pair_count ws)) S' S'' (omega arith) f.grew.rest ∙ p.rest;
  flags = subst (Recorded t (common (pairs ws) - t) ws) (sym (drop-further (2 * n) (flags_from n) S' S'' (omega arith) f.grew.rest)) p.flags;
  forest = f.grew.forest;
  seeded = f.seeded;
  closed = f.closed;
}

-- late where the forest is
abbrev late_in : ℕ → List ℕ → List Bool
late_in n S = map (ltb 0) (take n S)

late-at : (n : ℕ) (S : List ℕ) (r : ℕ) → r < n → get_or (late_in n S) r false ≡ ltb 0 (depth_of S r)
late-at n S r h = get_or-map (ltb 0) (take n S) r 0 ∙ ap (ltb 0) (get_or-take n S r 0 h)

module _ {ws : List ℕ} {n m : ℕ} (list : UsableList ws n m) (t s : ℕ) (S : List ℕ) (f : Recorded t s ws (drop (flags_from n) S))
    (seeded : (k : ℕ) → k < pair_count ws → IsSeeded ws n k S) (closed : AllForce ws n S)
    (clear : (k : ℕ) → k < pair_count ws → Clashes ws n S k → ⊥) where
  -- a broken choice of pair k is recorded
  row-recorded : (k : ℕ) → k < pair_count ws → (j : ℕ) → j < per_pair → broken_row t s (pair_at ws k) j ≡ true → IsBroken n S (per_pair * k + j)
  row-recorded k h j l b =
      let i : (per_pair * k + j) / per_pair ≡ k = omega arith in
      let r : (per_pair * k + j) % per_pair ≡ j = omega arith in
      broken-recorded t s ws n S f (per_pair * k + j) (rw i h) (rw (i, r) b)

  pair-kept : (k : ℕ) → k < pair_count ws → keeps t s (pair_at ws k) (late_in n S) ≡ true
  pair-kept k h =
      rw (late-at n S (pair_at ws k).launch (ends-in list k h).0, late-at n S (pair_at ws k).capture (ends-in list k h).1)
      (go (ltb 0 (depth_of S (pair_at ws k).launch)) (ltb 0 (depth_of S (pair_at ws k).capture)) _ refl refl refl)
    where
      go : (a b x : Bool) → ltb 0 (depth_of S (pair_at ws k).launch) ≡ a → ltb 0 (depth_of S (pair_at ws k).capture) ≡ b
          → meets t s (pair_at ws k) a b ≡ x → x ≡ true
      go a b true ea eb e = refl
      go false false false ea eb e =
          absurd (omega (arith, ltb-false 0 (depth_of S (pair_at ws k).capture) eb, seeded k h (row-recorded k h early_early (omega arith) (ap not e))))
      go false true false ea eb e =
          let late = (closed k h).1 (row-recorded k h early_late (omega arith) (ap not e)) (ltb-true _ _ eb) in
          absurd (omega (arith, ltb-false 0 (depth_of S (pair_at ws k).launch) ea, late))
      go true false false ea eb e =
          let late = (closed k h).0 (row-recorded k h late_early (omega arith) (ap not e)) (ltb-true _ _ ea) in
          absurd (omega (arith, ltb-false 0 (depth_of S (pair_at ws k).capture) eb, late))
      go true true false ea eb e =
          absurd (clear k h (record { breaks = row-recorded k h late_late (omega arith) (ap not e); late = ltb-true _ _ ea }))

  late-works : works t s (pairs ws) (late_in n S) ≡ true
  late-works = each-works t s (late_in n S) (pairs ws) (each-pair ws (λ p. keeps t s p (late_in n S) ≡ true) pair-kept)

-- ---- the ways to end

-- what is told twice is the same
some-same : {u v : Blocked} → ◌≡◌ {A = Reason} (Ok (Some u)) (Ok (Some v)) → u ≡ v
some-same q = cc

same-block : {r f s r' f' s' : ℕ} → blocked_by r f s ≡ blocked_by r' f' s' → (r' ≡ r) × ((f' ≡ f) × (s' ≡ s))
same-block q = (
  sym (ap (λ (b : Blocked). b.register) q),
  (sym (ap (λ (b : Blocked). b.first) q), sym (ap (λ (b : Blocked). b.second) q)),
)

-- chains to name where none are shown
abbrev no_chains : Chains
no_chains = record { register = 0; first = []; second = [] }

module _ (ws : List ℕ) (period : ℕ) (answer scratch : List ℕ) where
  -- a refusal changes nothing
  kept : {r : Refused} → why_not ws period (length answer) (length scratch) no_chains ≡ refused (number_of r.refusal) r.place
      → WhyAs ws period answer answer scratch scratch (Err r)
  unfolding reply_of buffer_after scratch_after why_reply
  kept e =
      record {
        chains = no_chains;
        reply = rw e;
        stored = rw e;
        left = rw e;
        workable = λ q. let z : ◌≡◌ {A = ℕ} 0 1 = cc in absurd (omega arith);
        blocked = λ r f s q. let z : ◌≡◌ {A = ℕ} 0 1 = cc in absurd (omega arith);
      }

  -- the list is refused
  pub list-refused : {r : Refused} → verdict ws ≡ Err r → WhyAs ws period answer answer scratch scratch (Err r)
  unfolding why_not
  list-refused v = kept (first-refused (list_checks ws) _ _ (refused→fault ws v))

  -- the list is accepted, and the caller's checks decide
  module _ {n m : ℕ} (v : verdict ws ≡ accepted n m) {f : Fault}
      (e : f ≡ first_fault (why_call_checks n m period (length answer) (length scratch))) where
    fault-is : f ≡ first_fault (why_call_checks (registers ws) (pair_count ws) period (length answer) (length scratch))
    fault-is =
        let a = accepted→none ws v in
        rw (a.list.registers_are, a.list.pairs_are) at e

    pub call-refused : {r : Refused} → f ≡ Err r → WhyAs ws period answer answer scratch scratch (Err r)
    unfolding why_not
    call-refused g = kept (then-refused (list_checks ws) _ _ (accepted→none ws v).none (sym fault-is ∙ g))

    pub call-allowed : f ≡ no_fault → WhyAllowed ws period n m answer scratch
    call-allowed g =
        let a = accepted→none ws v in
        let call = why_call_checks (registers ws) (pair_count ws) period (length answer) (length scratch) in
        let p = passed call (sym fault-is ∙ g) in
        let h : 4 * registers ws ≤ length answer = ltb-false _ _ p.1.1.0 in
        let k : scratch_places (registers ws) (pair_count ws) ≤ length scratch = ltb-false _ _ p.1.1.1.0 in
        record {
          none = pass-both (list_checks ws) call a.none (sym fault-is ∙ g);
          lent = record { list = usable-list ws a.list; room = omega (arith, a.list.registers_are, a.list.pairs_are) };
          room = omega (arith, a.list.registers_are);
          from = omega (arith, eqb-false period 0 p.0);
          upto = ltb-false _ _ p.1.0;
        }

  -- ---- an allowed call
  module _ {n m : ℕ} (a : WhyAllowed ws period n m answer scratch) where
    outcome : (b : Bool) (x : Chains) → two_works (registers ws) (pairs ws) period ≡ b
        → why_not ws period (length answer) (length scratch) x ≡ why_outcome b x
    unfolding why_not
    outcome b x e = answered-done (why_checks ws period (length answer) (length scratch)) _ a.none ∙ ap (λ (y : Bool). why_outcome y x) e

    zeros-left : (S S' : List ℕ) → drop (scratch_places n (pair_count ws)) S ≡ drop (scratch_places n (pair_count ws)) scratch
        → S' ≡ replicate (scratch_places n m) 0 ++ drop (scratch_places n m) S
        → S' ≡ over (replicate (scratch_places (registers ws) (pair_count ws)) 0) scratch
    zeros-left S S' r c = c ∙ rw (length-replicate, a.lent.list.pairs_are, r, a.lent.list.registers_are)

    module _ {S : List ℕ} (d : Ready ws period n scratch S) where
      -- no pair clashes
      pub workable-shown : {S' : List ℕ} → ((k : ℕ) → k < m → Clashes ws n S k → ⊥)
          → S' ≡ replicate (scratch_places n m) 0 ++ drop (scratch_places n m) S → WhyAs ws period answer answer scratch S' (Ok None)
      unfolding why_outcome reply_of buffer_after scratch_after why_reply two_works
      workable-shown {S'} c z =
          let list = a.lent.list in
          let w = late-works list period (common (pairs ws) - period) S d.flags d.seeded d.closed (λ k h. c k (omega (arith, list.pairs_are))) in
          let size : length (late_in n S) ≡ registers ws =
          length-map (take n S) (ltb 0) ∙ (length-take-le n S (omega (arith, a.lent.room, d.size)) ∙ list.registers_are) in
          let e = outcome true no_chains (works→there (registers ws) period (common (pairs ws) - period) (pairs ws) (late_in n S) size w) in
          record {
            chains = no_chains;
            reply = rw e;
            stored = rw e;
            left = rw e (zeros-left S S' d.rest z);
            workable = λ q. record { split = late_in n S; size = size; works = w };
            blocked = λ r f s q. let y : ◌≡◌ {A = ℕ} 0 1 = cc in absurd (omega arith);
          }

      -- pair k clashes
      module _ {k : ℕ} (h : k < m) (c : Clashes ws n S k) where
        pub clashing : Clashing ws n m k answer S
        clashing = record {
          growing = record { lent = lent-kept a.lent d.size; forest = d.forest };
          seeded = d.seeded;
          below = h;
          clashes = c;
          room = a.room;
        }

        sound : Blocks (registers ws) period (common (pairs ws) - period) (pairs ws) (chains_of ws n S k)
        sound =
            subst (λ (z : ℕ). Blocks z period (common (pairs ws) - period) (pairs ws) (chains_of ws n S k)) a.lent.list.registers_are
            (chains-block ws n m k answer S clashing period (common (pairs ws) - period) d.flags)

        pub blocked-shown : {answer' S' S'' : List ℕ} {b : Blocked} → ChainsIn ws n k answer answer' S S' b
            → S'' ≡ replicate (scratch_places n m) 0 ++ drop (scratch_places n m) S' → WhyAs ws period answer answer' scratch S'' (Ok (Some b))
        unfolding why_outcome reply_of buffer_after scratch_after why_reply
        blocked-shown {answer'} {S'} {S''} {b} x z =
            let e = outcome false (chains_of ws n S k) (blocks-two (registers ws) period (pairs ws) (chains_of ws n S k) sound) in
            record {
              chains = chains_of ws n S k;
              reply = rw (e, x.told) refl;
              stored = rw e x.stored;
              left = rw e (zeros-left S' S'' (x.rest ∙ d.rest) z);
              workable = λ q. let y : ◌≡◌ {A = ℕ} 0 1 = cc in absurd (omega arith);
              blocked = λ register first second q. named register first second (sym x.told ∙ some-same q);
            }
          where
            named : (register first second : ℕ)
                → blocked_by (chains_of ws n S k).register (length (chains_of ws n S k).first) (length (chains_of ws n S k).second)
                ≡ blocked_by register first second
                → BlockedBy ws period (chains_of ws n S k) register first second
            named register first second q = record {
              register_is = (same-block q).0;
              first_is = (same-block q).1.0;
              second_is = (same-block q).1.1;
              sound = sound;
              none = λ u v c y. blocks-rival (registers ws) period (pairs ws) (chains_of ws n S k) sound a.from u v c y;
            }
