-- The walk to the first pair that breaks a rule, and what it says of the schedule.
use Prim.Native.Nat.{ℕ, zero, suc, ◌+◌, ◌≤◌, ◌<◌, zero-le}
use mathlib.Core.Bool.{Bool, true, false, not, ◌||◌, cond, false≢true}
use mathlib.Core.List.{List, [], ◌∷◌}
use mathlib.Core.Logic.{◌⊎◌, inl, inr}
use mathlib.Core.Path.{◌≡◌, refl, ap, sym, ◌∙◌}
use native.Mathlib.Nat.{eq-or-lt_of_le}
use native.Mathlib.Omega.{arith}
use borrow.Author.Count.{below_more}
use borrow.Author.Tests.{not-true, not-false, le-ltb, ltb-true, ltb-false, eq-eqb, ne_eqb, eqb-true, eqb-false}
use lib.Dec.{ltb, eqb}
use lib.IntN.{pos, nat_abs}
use lib.ListN.{length}
use lib.Signed.{non_neg, le_z}
use Rattle.timing.specs.Rules.{time, admissible, Each}
use Rattle.timing.specs.Limits.{max_period, max_timing}
use Rattle.timing.proofs.MarginLaws.{lt-or-le, at-least-nought, size}
use Rattle.timing.proofs.RuleLaws.{test→met, met→test, admissible-sound, admissible-complete}
use Rattle.search.proofs.SearchLaws.{least-is}
use Rattle.refusals.specs.Checks.{first_fault, no_fault, Fault, number_of}
use Rattle.refusals.proofs.CheckLaws.{passed, passes, pass-both, stop-first, pass-first}
use Rattle.refusals.proofs.ReplyLaws.{answered-refused, answered-done}
use Rattle.refusals.specs.Reply.{refused, done, reply_of}
use Rattle.list_format.specs.Lists.{registers, pair_count, pair_at, pairs, list_checks, verdict, accepted, IsAccepted, IsUsable, PairIn, UsableList}
use Rattle.list_format.proofs.ListLaws.{refused→fault, accepted→none, same, no_difference, each-pair, pair-holds}
use Rattle.list_format.proofs.ListLaws.{usable-list, still-usable, is-pair}
use Rattle.checker.specs.Check.{margin_at, low_rule, smallest, met_at, first_broken, broken_rule, answer_for, check_values, check_reply}
use Rattle.checker.specs.Check.{some_above, timing_checks, check_checks, checking, admits, Passes, reported, IsSmallest}
use Rattle.checker.specs.Check.{named, IsFirstBroken, CheckedAs, Walked}
use Rattle.checker.specs.declared.Rule.{Rule}
use Rattle.checker.specs.declared.Rule.TheVariants.{Setup, Hold}
use Rattle.checker.specs.declared.Smallest.{Smallest}
use Rattle.checker.specs.declared.Walk.{Walk}
use Rattle.checker.specs.declared.Checking.{Checking}
use Rattle.checker.specs.declared.Checking.TheVariants.{NoPairs, Admissible, Broken}
use Rattle.checker.proofs.BrokenLaws.{first-is, broken-first}
use Rattle.checker.proofs.MarginLaws.{not_negative, met-low, smallest-met, smallest-below, smallest-is, smallest-least, smallest-first}
use Rattle.std.specs.Prelude.{Ok, Err}
use Rattle.refusals.specs.declared.Refused.{Refused}

-- ---- pair after pair

-- the pairs before place k meet both rules
pub record Looked (ws : List ℕ) (t : ℕ) (s : List ℕ) (k : ℕ) : Type 0 where
  pub bound : k ≤ pair_count ws
  pub met : (j : ℕ) → j < k → met_at ws t s j ≡ true

module _ {ws : List ℕ} {t : ℕ} {s : List ℕ} where
  pub looked-start : Looked ws t s 0
  looked-start = record { bound = zero-le; met = λ j h. absurd (omega arith) }

  pub looked-turn : {k : ℕ} → Looked ws t s k → k < pair_count ws → met_at ws t s k ≡ true → Looked ws t s (k + 1)
  looked-turn {k} l h e = record { bound = omega arith; met = below_more (λ j. met_at ws t s j ≡ true) k l.met e }

  pub looked-end : {k : ℕ} → Looked ws t s k → (k < pair_count ws → met_at ws t s k ≡ false) → k ≡ first_broken ws t s
  unfolding first_broken
  looked-end {k} l stop =
      sym (least-is (λ j. not (met_at ws t s j)) 0 (pair_count ws) k
      (record { from = zero-le; upto = l.bound; passes = λ h. ap not (stop h); before = λ j a b. ap not (l.met j b) }))

-- ---- the schedule is admissible exactly if no pair breaks a rule

-- `first_broken` is the least place whose pair fails the test of both rules (`first-is`, of BrokenLaws). Where it is the count of pairs, each pair
-- passes the test, and so meets both rules. Where it is less, that pair fails, as no pair of an admissible schedule does.
module _ (ws : List ℕ) (t : ℕ) (s : List ℕ) where
  pub none-admissible : pair_count ws ≤ first_broken ws t s → admissible t (pairs ws) s ≡ true
  unfolding met_at margin_at
  none-admissible h =
      admissible-complete t s (pairs ws)
      (each-pair ws _ (λ k l. test→met (pair_at ws k) t _ _ (not-false _ ((first-is ws t s).before k zero-le (omega arith)))))

  admissible-none : admissible t (pairs ws) s ≡ true → first_broken ws t s < pair_count ws → ⊥
  unfolding met_at margin_at
  admissible-none a h =
      false≢true (sym (not-true _ ((first-is ws t s).passes h)) ∙ met→test (pair_at ws _) t _ _ (pair-holds ws _ (admissible-sound t s (pairs ws) a) _ h))

  pub some-broken : first_broken ws t s < pair_count ws → admissible t (pairs ws) s ≡ false
  some-broken h = go (admissible t (pairs ws) s) refl
    where
      go : (b : Bool) → admissible t (pairs ws) s ≡ b → admissible t (pairs ws) s ≡ false
      go true e = absurd (admissible-none e h)
      go false e = e

  -- as a test
  pub none-test : eqb (first_broken ws t s) (pair_count ws) ≡ admissible t (pairs ws) s
  none-test = go (eq-or-lt_of_le (first-is ws t s).upto)
    where
      go : (first_broken ws t s ≡ pair_count ws) ⊎ (first_broken ws t s < pair_count ws)
          → eqb (first_broken ws t s) (pair_count ws) ≡ admissible t (pairs ws) s
      go (inl e) = eq-eqb _ _ e ∙ sym (none-admissible (omega arith))
      go (inr l) = ne_eqb (first_broken ws t s) (pair_count ws) (λ e. omega arith) ∙ sym (some-broken l)

  -- ---- and exactly if the smallest margin is not negative

  module _ (some : 0 < pair_count ws) where
    none_below : non_neg (smallest ws t s).margin ≡ true → pair_count ws ≤ first_broken ws t s
    none_below n = go (lt-or-le (first_broken ws t s) (pair_count ws))
      where
        go : (first_broken ws t s < pair_count ws) ⊎ (pair_count ws ≤ first_broken ws t s) → pair_count ws ≤ first_broken ws t s
        go (inr h) = h
        go (inl h) =
            absurd (false≢true (sym (not-true _ ((first-is ws t s).passes h)) ∙ met-low ws t s _
            ∙ not_negative _ _ (smallest-least ws t s some _ (low_rule ws t s _) h) n))

    one_below : non_neg (smallest ws t s).margin ≡ false → first_broken ws t s < pair_count ws
    one_below n = go (lt-or-le (first_broken ws t s) (pair_count ws))
      where
        go : (first_broken ws t s < pair_count ws) ⊎ (pair_count ws ≤ first_broken ws t s) → first_broken ws t s < pair_count ws
        go (inl h) = h
        go (inr h) =
            let below : (smallest ws t s).pair < first_broken ws t s = omega (arith, smallest-below ws t s some) in
            absurd (false≢true (sym n ∙ smallest-met ws t s some ∙ not-false _ ((first-is ws t s).before _ zero-le below)))

    pub sign-is : admissible t (pairs ws) s ≡ non_neg (smallest ws t s).margin
    sign-is = go (non_neg (smallest ws t s).margin) refl
      where
        go : (b : Bool) → non_neg (smallest ws t s).margin ≡ b → admissible t (pairs ws) s ≡ b
        go true n = none-admissible (none_below n)
        go false n = some-broken (one_below n)

-- ---- the answer for an accepted list

or-none : (a b : Bool) → a || b ≡ false → (a ≡ false) × (b ≡ false)
or-none true b e = absurd (false≢true (sym e))
or-none false b e = (refl, e)

-- no timing is above the limit
time-within : (s : List ℕ) → some_above s ≡ false → (r : ℕ) → time s r ≤ max_timing
time-within [] e r = zero-le
time-within (x ∷ s) e zero = ltb-false _ _ (or-none (ltb max_timing x) (some_above s) e).0
time-within (x ∷ s) e (suc r) = time-within s (or-none (ltb max_timing x) (some_above s) e).1 r

module _ (ws : List ℕ) (t : ℕ) (s : List ℕ) where
  some_pairs : eqb (pair_count ws) 0 ≡ false → 0 < pair_count ws
  some_pairs e = go (pair_count ws) (eqb-false (pair_count ws) 0 e)
    where
      go : (m : ℕ) → (m ≡ 0 → ⊥) → 0 < m
      go zero none = absurd (none refl)
      go (suc m) none = omega arith

  -- the answer for a schedule that breaks a rule
  abbrev broken-answer : Checking
  broken-answer = Broken (first_broken ws t s) (broken_rule ws t s (first_broken ws t s)) (smallest ws t s)

  -- what holds of each of its cases
  answer-by : (P : Checking → Type 0) → (pair_count ws ≡ 0 → P NoPairs)
      → (0 < pair_count ws → pair_count ws ≤ first_broken ws t s → P (Admissible (smallest ws t s)))
      → (0 < pair_count ws → first_broken ws t s < pair_count ws → P broken-answer)
      → P (answer_for ws t s)
  unfolding answer_for
  answer-by P none met broken = go (eqb (pair_count ws) 0) refl (ltb (first_broken ws t s) (pair_count ws)) refl
    where
      go : (b : Bool) → eqb (pair_count ws) 0 ≡ b → (c : Bool) → ltb (first_broken ws t s) (pair_count ws) ≡ c
          → P (cond b NoPairs (cond c broken-answer (Admissible (smallest ws t s))))
      go true e c q = none (eqb-true (pair_count ws) 0 e)
      go false e true q = let l = ltb-true (first_broken ws t s) (pair_count ws) q in broken (omega arith) l
      go false e false q = met (some_pairs e) (ltb-false (first_broken ws t s) (pair_count ws) q)

  answer-admits : admits (Ok (answer_for ws t s)) ≡ admissible t (pairs ws) s
  unfolding admits
  answer-admits =
      answer-by (λ r. admits (Ok r) ≡ admissible t (pairs ws) s) (λ e. sym (none-admissible ws t s (omega arith)))
      (λ h l. sym (none-admissible ws t s l)) (λ h l. sym (some-broken ws t s l))

  answer-none : answer_for ws t s ≡ NoPairs → pair_count ws ≡ 0
  answer-none = answer-by (λ r. r ≡ NoPairs → pair_count ws ≡ 0) (λ e q. e) (λ h l q. cc) (λ h l q. cc)

  answer-some : pair_count ws ≡ 0 → answer_for ws t s ≡ NoPairs
  answer-some e = answer-by (λ r. r ≡ NoPairs) (λ z. refl) (λ h l. absurd (omega arith)) (λ h l. absurd (omega arith))

  -- only a pair of the list is named
  pub broken-below : {k : ℕ} {rule : Rule} {x : Smallest} → Broken k rule x ≡ answer_for ws t s → k < pair_count ws
  broken-below {k} {rule} {x} =
      answer-by (λ r. Broken k rule x ≡ r → k < pair_count ws) (λ e q. let z : ◌≡◌ {A = ℕ} 0 1 = cc in absurd (omega arith))
      (λ h l q. let z : ◌≡◌ {A = ℕ} 0 1 = cc in absurd (omega arith)) (λ h l q. let same : k ≡ first_broken ws t s = cc in omega arith)

  answer-broken : Each (IsFirstBroken ws t s) (named (Ok (answer_for ws t s)))
  unfolding named
  answer-broken = answer-by (λ r. Each (IsFirstBroken ws t s) (named (Ok r))) (λ e. tt) (λ h l. tt) (λ h l. (broken-first ws t s l, tt))

  module _ (usable : IsUsable ws) (few : t ≤ max_period) (limit : (r : ℕ) → time s r ≤ max_timing) where
    margin-within : (k : ℕ) → k < pair_count ws → (rule : Rule) → nat_abs (margin_at ws t s k rule) ≤ max_timing + max_period
    unfolding margin_at
    margin-within k h Setup =
        let p = pair_at ws k in
        let v = (is-pair ws k (record { usable = usable; below = h })).values in
        size (time s p.capture + t) (time s p.launch + p.greatest) (max_timing + max_period)
        (omega (arith, few, limit p.capture)) (omega (arith, limit p.launch, v.limit))
    margin-within k h Hold =
        let p = pair_at ws k in
        let v = (is-pair ws k (record { usable = usable; below = h })).values in
        size (time s p.launch + p.least) (time s p.capture) (max_timing + max_period)
        (omega (arith, limit p.launch, v.order, v.limit)) (omega (arith, limit p.capture))

    smallest-all : 0 < pair_count ws → IsSmallest ws t s (smallest ws t s)
    smallest-all h =
        record {
          below = smallest-below ws t s h;
          is = smallest-is ws t s h;
          smallest = smallest-least ws t s h;
          first = smallest-first ws t s h;
          sign = sign-is ws t s h;
          within = rw (smallest-is ws t s h) (margin-within (smallest ws t s).pair (smallest-below ws t s h) (smallest ws t s).rule);
        }

    answer-margin : Each (IsSmallest ws t s) (reported (Ok (answer_for ws t s)))
    unfolding reported
    answer-margin = answer-by (λ r. Each (IsSmallest ws t s) (reported (Ok r))) (λ e. tt) (λ h l. (smallest-all h, tt)) (λ h l. (smallest-all h, tt))

-- from the walk over all pairs
module _ (t : ℕ) (s : List ℕ) {ws : List ℕ} {n count : ℕ} (list : UsableList ws n count) where
  pub by-none : count ≡ 0 → NoPairs ≡ answer_for ws t s
  by-none e = sym (answer-some ws t s (sym list.pairs_are ∙ e))

  module _ {w : Walk} (walk : Walked ws t s count w) (some : 0 < count) where
    all-pairs : w.smallest ≡ smallest ws t s
    unfolding smallest
    all-pairs = rw (← list.pairs_are) walk.smallest

    some_pair : 0 < pair_count ws
    some_pair = rw list.pairs_are at some

    sign-as : {b : Bool} → le_z (pos 0) w.smallest.margin ≡ b → non_neg (smallest ws t s).margin ≡ b
    sign-as e = rw (← all-pairs) (sym (at-least-nought w.smallest.margin) ∙ e)

    pub by-met : le_z (pos 0) w.smallest.margin ≡ true → Admissible w.smallest ≡ answer_for ws t s
    by-met e =
        let none = none_below ws t s some_pair (sign-as e) in
        answer-by ws t s (λ r. Admissible w.smallest ≡ r) (λ z. absurd (omega arith)) (λ h l. ap Admissible all-pairs)
        (λ h l. absurd (omega arith))

    module _ (e : le_z (pos 0) w.smallest.margin ≡ false) where
      broken-is : w.broken ≡ first_broken ws t s
      broken-is = walk.broken (sym (at-least-nought w.smallest.margin) ∙ e)

      pub by-broken : {rule : Rule} → rule ≡ broken_rule ws t s w.broken → Broken w.broken rule w.smallest ≡ answer_for ws t s
      by-broken {rule} is =
          let one = one_below ws t s some_pair (sign-as e) in
          answer-by ws t s (λ r. Broken w.broken rule w.smallest ≡ r) (λ z. absurd (omega arith)) (λ h l. absurd (omega arith))
          (λ h l. rw (is, broken-is, all-pairs))

      pub broken-in : PairIn ws w.broken
      broken-in = record { usable = list.usable; below = rw broken-is (one_below ws t s some_pair (sign-as e)) }

-- ---- the call

module _ (ws : List ℕ) (t : ℕ) (s : List ℕ) where
  -- Each way to end settles what the run of checks finds, and with it the outcome; the reply follows by computation. A refusal does
  -- not admit the schedule, and its checks find something: it promises no more. Where the pairs decide, the answer is that of the definition.

  -- the call is refused
  refuses : {r : Refused} → first_fault (check_checks ws t s) ≡ Err r → checking ws t s ≡ refused (number_of r.refusal) r.place
      → CheckedAs ws t s (Err r)
  unfolding reply_of check_reply admits reported named
  refuses f e =
      record {
        reply = rw e;
        answer = λ n. let z : ◌≡◌ {A = ℕ} 0 1 = cc in absurd (omega arith);
        sound = λ a. cc;
        complete = λ a n. let z : ◌≡◌ {A = ℕ} 0 1 = cc in absurd (omega arith);
        margin = tt;
        broken = tt;
        none = λ q. cc;
        some = λ n q. let z : ◌≡◌ {A = ℕ} 0 1 = cc in absurd (omega arith);
      }

  pub by-list : {r : Refused} → verdict ws ≡ Err r → CheckedAs ws t s (Err r)
  unfolding checking
  by-list e =
      let f = stop-first (list_checks ws) (timing_checks (registers ws) t s) (refused→fault ws e) in
      refuses f (answered-refused (check_checks ws t s) _ f)

  module _ {n m : ℕ} (e : verdict ws ≡ accepted n m) {f : Fault} (call : f ≡ first_fault (timing_checks n t s)) where
    call-decides : first_fault (check_checks ws t s) ≡ f
    call-decides =
        let a = accepted→none ws e in
        pass-first (list_checks ws) (timing_checks (registers ws) t s) a.none ∙ rw (← a.list.registers_are) (sym call)

    pub by_call : {r : Refused} → f ≡ Err r → CheckedAs ws t s (Err r)
    unfolding checking
    by_call h = refuses (call-decides ∙ h) (answered-refused (check_checks ws t s) _ (call-decides ∙ h))

    module _ (h : f ≡ no_fault) where
      pub call-size : length s ≡ n
      call-size = let c = passed (timing_checks n t s) (sym call ∙ h) in same _ _ c.1.1.0

      pub call-ready : UsableList ws (length s) m
      call-ready = still-usable call-size (usable-list ws (accepted→none ws e).list)

      answer-is : CheckedAs ws t s (Ok (answer_for ws t s))
      unfolding checking reply_of check_reply
      answer-is =
          let c = passed (timing_checks n t s) (sym call ∙ h) in
          let e : checking ws t s ≡ done (check_values (answer_for ws t s)) [] = answered-done (check_checks ws t s) _ (call-decides ∙ h) in
          record {
            reply = rw e;
            answer = λ n. refl;
            sound = λ a. sym (answer-admits ws t s) ∙ a;
            complete = λ a n. answer-admits ws t s ∙ a;
            margin = answer-margin ws t s call-ready.usable (ltb-false _ _ c.1.0) (time-within s c.1.1.1.0);
            broken = answer-broken ws t s;
            none = λ q. answer-none ws t s cc;
            some = λ n q. ap Ok (answer-some ws t s q);
          }

      pub by-pairs : {r : Checking} → r ≡ answer_for ws t s → CheckedAs ws t s (Ok r)
      by-pairs is = rw is answer-is

-- ---- a schedule handed out passes

-- no timing is above the limit
none_above : (s : List ℕ) → ((r : ℕ) → time s r ≤ max_timing) → some_above s ≡ false
none_above [] h = refl
none_above (x ∷ s) h = rw (le-ltb max_timing x (h 0)) (none_above s (λ r. h (suc r)))

-- what is admissible, in range and within the limit passes: no check refuses it, and the answer is that it is admissible
pub admissible-passes : (ws : List ℕ) (t : ℕ) (s : List ℕ) → IsAccepted ws → 1 ≤ t → t ≤ max_period → length s ≡ registers ws
    → ((r : ℕ) → time s r ≤ max_timing) → admissible t (pairs ws) s ≡ true → Passes ws t s
admissible-passes ws t s a from upto size limit meets =
    record {
      accepted = pass-both (list_checks ws) (timing_checks (registers ws) t s) (accepted→none ws a).none call;
      admitted = answer-admits ws t s ∙ meets;
    }
  where
    call : first_fault (timing_checks (registers ws) t s) ≡ no_fault
    call = passes (timing_checks (registers ws) t s)
        (ne_eqb t 0 (λ e. omega arith), (le-ltb _ _ upto, (no_difference _ _ size, (none_above s limit, tt))))

-- the same period and the same timings pass too
pub passes-as : (ws : List ℕ) {t u : ℕ} {s x : List ℕ} → u ≡ t → x ≡ s → Passes ws t s → Passes ws u x
passes-as ws e d h = rw (e, d) h
