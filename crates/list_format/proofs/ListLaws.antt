-- What it means for a list to be accepted, fact by fact, and what follows for its pairs.
use Prim.Native.Nat.{ℕ, zero, suc, ◌+◌, ◌-◌, ◌%◌, ◌^◌, ◌<◌, ◌≤◌}
use mathlib.Core.Bool.{Bool, true, false, not, cond, ◌&&◌}
use mathlib.Core.List.{List, [], ◌∷◌, ◌++◌}
use mathlib.Core.Path.{◌≡◌, sym, refl, ◌∙◌, ap}
use native.Mathlib.Omega.{arith}
use lib.Dec.{ltb, leb, eqb}
use lib.ListN.{length, take}
use borrow.Author.Tests.{ltb-true, ltb-false, le-ltb, leb-false, lt-leb, eqb-true, eqb-false, eq-eqb, ne_eqb, not-false}
use Rattle.timing.specs.declared.Pair.{Pair}
use Rattle.timing.specs.Rules.{Each, InRange}
use Rattle.timing.specs.Limits.{max_registers, max_pairs, max_delay, max_period}
use Rattle.words.specs.Word.{kind_head, kind_pair, kind_least, kind_greatest, kind_needs, kind_end, kind_of, payload_of, head_spare, pair_spare, checksum}
use Rattle.words.specs.Word.{hold_of, setup_of, needs_spare}
use Rattle.ordering.specs.Order.{key_of, not_above, Ascends}
use Rattle.ordering.proofs.OrderLaws.{above-none, none_above, above-first, above-later}
use Rattle.refusals.specs.Checks.{Check, or_check, fault_after, first_fault, each_check, no_fault, Fault}
use Rattle.refusals.specs.Reply.{numbers, Outcome, reply_of, answered}
use Rattle.refusals.proofs.CheckLaws.{stop-first, pass-first, both-pass, pass-both, passed, passes, each_of, all_of}
use Rattle.refusals.proofs.ReplyLaws.{numbers-none}
use Rattle.list_format.specs.Lists.{word, registers, pair_count, need_words, hold_at, setup_at, needs_of, pair_place, written_at}
use Rattle.list_format.specs.Lists.{counting_needs, pair_at, pairs_from, pairs, place_of, step_of, no_needs}
use Rattle.list_format.specs.Lists.{differ, head_checks, need_checks, block_checks, kind_checks, value_checks, own_checks, order_check}
use Rattle.list_format.specs.Lists.{pair_checks, end_checks}
use Rattle.list_format.specs.Lists.{pairs_checks, body_checks, checks_by, list_checks}
use Rattle.list_format.specs.Lists.{judged, verdict_by, verdict, Verdict, NeedsIn, ValuesIn, WrittenIn, accepted, IsAccepted, AcceptedList}
use Rattle.list_format.specs.Lists.{first_needs, IsUsable, UsableList, PairIn, IsWritten, IsPair}
use Rattle.list_format.proofs.NeedsLaws.{needs-present, needs-absent}
use Rattle.std.specs.Prelude.{Ok, Err}
use Rattle.refusals.specs.declared.Refused.{Refused}
use Rattle.list_format.specs.declared.Counts.{Counts}
use Rattle.refusals.specs.declared.Refusal.TheVariants.{Order}

-- ---- the verdict and the first check that fails

-- a verdict tells one count of registers and one of pairs
count_in : (Counts → ℕ) → Verdict → ℕ
count_in f (Ok c) = f c
count_in f (Err r) = 0

pub same-counts : {n m k l : ℕ} → accepted n m ≡ accepted k l → (n ≡ k) × (m ≡ l)
unfolding count_in
same-counts e = (ap (count_in (λ c. c.registers)) e, ap (count_in (λ c. c.pairs)) e)

-- with the order asked for or not
module _ (asked : Bool) (ws : List ℕ) where
  fault-refused : {r : Refused} → first_fault (checks_by asked ws) ≡ Err r → verdict_by asked ws ≡ Err r
  unfolding judged verdict_by
  fault-refused e = ap (judged ws) e

  pub none-accepted : first_fault (checks_by asked ws) ≡ no_fault → verdict_by asked ws ≡ accepted (registers ws) (pair_count ws)
  unfolding judged verdict_by
  none-accepted e = ap (judged ws) e

  -- the head decides, or else what stands after it
  pub head-refuses : {r : Refused} → first_fault (head_checks (word ws 0) (word ws 1) (length ws)) ≡ Err r
      → verdict_by asked ws ≡ Err r
  head-refuses e =
      fault-refused (stop-first (head_checks (word ws 0) (word ws 1) (length ws)) (body_checks asked ws (registers ws) (pair_count ws)) e)

  module _ (head : first_fault (head_checks (word ws 0) (word ws 1) (length ws)) ≡ no_fault) where
    rest-decides : first_fault (checks_by asked ws) ≡ first_fault (body_checks asked ws (registers ws) (pair_count ws))
    rest-decides = pass-first (head_checks (word ws 0) (word ws 1) (length ws)) (body_checks asked ws (registers ws) (pair_count ws)) head

    pub body-refuses : {r : Refused} → first_fault (body_checks asked ws (registers ws) (pair_count ws)) ≡ Err r
        → verdict_by asked ws ≡ Err r
    body-refuses e = fault-refused (rest-decides ∙ e)

    pub body-accepts : first_fault (body_checks asked ws (registers ws) (pair_count ws)) ≡ no_fault
        → verdict_by asked ws ≡ accepted (registers ws) (pair_count ws)
    body-accepts e = none-accepted (rest-decides ∙ e)

  judged-refused : (f : Fault) {r : Refused} → judged ws f ≡ Err r → f ≡ Err r
  unfolding judged
  judged-refused (Ok u) e =
      let z : ◌≡◌ {A = ℕ} 0 1 = cc in
      absurd (omega arith)
  judged-refused (Err r) e = cc

  pub refused-fault : {r : Refused} → verdict_by asked ws ≡ Err r → first_fault (checks_by asked ws) ≡ Err r
  unfolding verdict_by
  refused-fault e = judged-refused (first_fault (checks_by asked ws)) e

  -- a list that is not refused passes every check, and its counts are those of its head
  pub record PassedAs (n m : ℕ) : Type 0 where
    pub none : first_fault (checks_by asked ws) ≡ no_fault
    pub registers_are : n ≡ registers ws
    pub pairs_are : m ≡ pair_count ws

  judged-passed : (f : Fault) {n m : ℕ} → first_fault (checks_by asked ws) ≡ f → judged ws f ≡ accepted n m → PassedAs n m
  unfolding judged
  judged-passed (Ok u) e a = record { none = e; registers_are = sym (same-counts a).0; pairs_are = sym (same-counts a).1 }
  judged-passed (Err r) e a =
      let z : ◌≡◌ {A = ℕ} 0 1 = cc in
      absurd (omega arith)

  pub accepted-passed : {n m : ℕ} → verdict_by asked ws ≡ accepted n m → PassedAs n m
  unfolding verdict_by
  accepted-passed a = judged-passed (first_fault (checks_by asked ws)) refl a

-- with the order
module _ (ws : List ℕ) where
  pub none→accepted : first_fault (list_checks ws) ≡ no_fault → IsAccepted ws
  none→accepted e = none-accepted true ws e

  pub refused→fault : {r : Refused} → verdict ws ≡ Err r → first_fault (list_checks ws) ≡ Err r
  refused→fault e = refused-fault true ws e

  pub record AcceptedAs (n m : ℕ) : Type 0 where
    pub none : first_fault (list_checks ws) ≡ no_fault
    pub list : AcceptedList ws n m

  pub accepted→none : {n m : ℕ} → verdict ws ≡ accepted n m → AcceptedAs n m
  accepted→none a =
      let p = accepted-passed true ws a in
      record { none = p.none; list = record { accepted = none→accepted p.none; registers_are = p.registers_are; pairs_are = p.pairs_are } }

-- a list stays usable with a count of registers that is the same number
pub still-usable : {ws : List ℕ} {n m k : ℕ} → k ≡ n → UsableList ws n m → UsableList ws k m
still-usable e l = record { usable = l.usable; registers_are = e ∙ l.registers_are; pairs_are = l.pairs_are }

-- ---- the facts behind the checks

-- the kinds of the three words of a pair
pub record KindsIn (p least greatest : ℕ) : Type 0 where
  pub kind : kind_of p ≡ kind_pair
  pub spare : pair_spare p ≡ 0
  pub least_kind : kind_of least ≡ kind_least
  pub greatest_kind : kind_of greatest ≡ kind_greatest

-- a word of needs
pub record NeedWordIn (w : ℕ) : Type 0 where
  pub kind : kind_of w ≡ kind_needs
  pub spare : needs_spare w ≡ 0
  pub needs : NeedsIn (hold_of w) (setup_of w)

-- the head and the count of words
pub record HeadIn (ws : List ℕ) : Type 0 where
  pub kind : kind_of (word ws 0) ≡ kind_head
  pub spare : head_spare (word ws 0) ≡ 0
  pub some : 0 < registers ws
  pub most : registers ws ≤ max_registers
  pub few : pair_count ws ≤ max_pairs
  pub size : length ws ≡ pair_place ws (pair_count ws) + 1

-- the end word
pub record EndIn (ws : List ℕ) (at : ℕ) : Type 0 where
  pub kind : kind_of (word ws at) ≡ kind_end
  pub payload : payload_of (word ws at) ≡ checksum (take at ws)

pub same : (a b : ℕ) → differ a b ≡ Bool.false → a ≡ b
same a b e = eqb-true a b (not-false _ e)

pub no_difference : (a b : ℕ) → a ≡ b → differ a b ≡ Bool.false
no_difference a b e = ap not (eq-eqb a b e)

module _ (n hold : ℕ) (p : Pair) (at least_at greatest_at : ℕ) where
  pub values-in : first_fault (value_checks n hold p at least_at greatest_at) ≡ no_fault → WrittenIn n hold p
  values-in e =
      let h = passed (value_checks n hold p at least_at greatest_at) e in
      record {
        values = record {
          launch = leb-false _ _ h.0;
          capture = leb-false _ _ h.1.0;
          order = ltb-false _ _ h.1.1.1.1.0;
          limit = ltb-false _ _ h.1.1.1.0;
        };
        holds = ltb-false _ _ h.1.1.1.1.1.0;
      }

  pub values-pass : WrittenIn n hold p → first_fault (value_checks n hold p at least_at greatest_at) ≡ no_fault
  values-pass w =
      let v = w.values in
      passes (value_checks n hold p at least_at greatest_at) (
        lt-leb _ _ v.launch,
        (
          lt-leb _ _ v.capture,
          (le-ltb max_delay p.least (omega arith), (le-ltb _ _ v.limit, (le-ltb _ _ v.order, (le-ltb _ _ w.holds, tt)))),
        ),
      )

and-false : (b : Bool) → b && false ≡ false
and-false true = refl
and-false false = refl

-- the order of m pairs passes where it is not asked for, and where they ascend
pub order-pass : (asked : Bool) (f : ℕ → Pair) {m k : ℕ} (at : ℕ) → (asked ≡ true → Ascends f m) → k < m
    → first_fault (order_check asked f k at ∷ []) ≡ no_fault
order-pass false f {m} {k} at a h = passes (order_check false f k at ∷ []) (refl, tt)
order-pass true f {m} {k} at a h = passes (order_check true f k at ∷ []) (above-none f m (a refl) k h, tt)

-- what the order of pair k comes to: met where it is not asked for, and for the first pair; else it is compared with the one before it
module _ (asked : Bool) (f : ℕ → Pair) (k at : ℕ) where
  pub order-unasked : asked ≡ false → first_fault (order_check asked f k at ∷ []) ≡ no_fault
  order-unasked e = passes (order_check asked f k at ∷ []) (rw e, tt)

  pub order-first : k ≡ 0 → first_fault (order_check asked f k at ∷ []) ≡ no_fault
  order-first e = passes (order_check asked f k at ∷ []) (rw (e, above-first f) (and-false asked), tt)

  pub order-later : asked ≡ true → 0 < k → first_fault (order_check asked f k at ∷ []) ≡ or_check no_fault (leb (key_of (f k)) (key_of (f (k - 1))), Order, at)
  unfolding fault_after
  order-later e h = rw (e, above-later f k h)

module _ (p least greatest at : ℕ) where
  kinds-in : first_fault (kind_checks p least greatest at) ≡ no_fault → KindsIn p least greatest
  kinds-in e =
      let h = passed (kind_checks p least greatest at) e in
      record { kind = same _ _ h.0; spare = same _ _ h.1.0; least_kind = same _ _ h.1.1.0; greatest_kind = same _ _ h.1.1.1.0 }

  kinds-pass : KindsIn p least greatest → first_fault (kind_checks p least greatest at) ≡ no_fault
  kinds-pass k =
      passes (kind_checks p least greatest at)
      (no_difference _ _ k.kind, (no_difference _ _ k.spare, (no_difference _ _ k.least_kind, (no_difference _ _ k.greatest_kind, tt))))

module _ (ws : List ℕ) where
  pub head_in : first_fault (head_checks (word ws 0) (word ws 1) (length ws)) ≡ no_fault → HeadIn ws
  head_in e =
      let h = passed (head_checks (word ws 0) (word ws 1) (length ws)) e in
      record {
        kind = same _ _ h.1.0;
        spare = same _ _ h.1.1.0;
        some = omega (arith, eqb-false (registers ws) 0 h.1.1.1.0);
        most = ltb-false _ _ h.1.1.1.1.0;
        few = ltb-false _ _ h.1.1.1.1.1.0;
        size = same _ _ h.1.1.1.1.1.1.0;
      }

  head-pass : HeadIn ws → first_fault (head_checks (word ws 0) (word ws 1) (length ws)) ≡ no_fault
  head-pass h =
      passes (head_checks (word ws 0) (word ws 1) (length ws)) (
        le-ltb (length ws) 2 (omega (arith, h.size)),
        (
          no_difference _ _ h.kind,
          (
            no_difference _ _ h.spare,
            (ne_eqb (registers ws) 0 (λ e. omega (arith, h.some)), (le-ltb _ _ h.most, (le-ltb _ _ h.few, (no_difference _ _ h.size, tt)))),
          ),
        ),
      )

  module _ (r : ℕ) where
    need-in : first_fault (need_checks ws r) ≡ no_fault → NeedWordIn (word ws (1 + r))
    need-in e =
        let h = passed (need_checks ws r) e in
        record {
          kind = same _ _ h.0;
          spare = same _ _ h.1.0;
          needs = record { hold = ltb-false _ _ h.1.1.0; setup = ltb-false _ _ h.1.1.1.0 };
        }

    pub need-pass : NeedWordIn (word ws (1 + r)) → first_fault (need_checks ws r) ≡ no_fault
    need-pass w =
        passes (need_checks ws r)
        (no_difference _ _ w.kind, (no_difference _ _ w.spare, (le-ltb _ _ w.needs.hold, (le-ltb _ _ w.needs.setup, tt))))

  module _ (at : ℕ) where
    end-in : first_fault (end_checks ws at) ≡ no_fault → EndIn ws at
    end-in e =
        let h = passed (end_checks ws at) e in
        record { kind = same _ _ h.0; payload = same _ _ h.1.0 }

    end-pass : EndIn ws at → first_fault (end_checks ws at) ≡ no_fault
    end-pass e = passes (end_checks ws at) (no_difference _ _ e.kind, (no_difference _ _ e.payload, tt))

  -- ---- an accepted list, fact by fact

  -- A run of checks finds nothing exactly where each of its parts finds nothing: the head, need by need, pair by pair, the end. A check that
  -- passes is the fact that it tests. So these facts and an empty finding follow from each other (`list-in`, `list-pass`).
  pub record ListIn : Type 0 where
    pub head : HeadIn ws
    pub needs : (r : ℕ) → r < need_words ws → NeedWordIn (word ws (1 + r))
    pub needed : ltb 0 (need_words ws) && no_needs (needs_of ws) ≡ false
    pub kinds : (k : ℕ) → k < pair_count ws → KindsIn (word ws (pair_place ws k)) (word ws (pair_place ws k + 1)) (word ws (pair_place ws k + 2))
    pub values : (k : ℕ) → k < pair_count ws → WrittenIn (registers ws) (hold_at ws (written_at ws k).capture) (written_at ws k)
    pub end : EndIn ws (pair_place ws (pair_count ws))

  -- the checks of pair k, the order asked for or not: of its words, of its values, of its order
  parts : (asked : Bool) → first_fault (checks_by asked ws) ≡ no_fault → (k : ℕ) → k < pair_count ws
      → (first_fault (kind_checks (word ws (pair_place ws k)) (word ws (pair_place ws k + 1)) (word ws (pair_place ws k + 2)) (pair_place ws k)) ≡ no_fault)
      × ((first_fault (value_checks (registers ws) (hold_at ws (written_at ws k).capture) (written_at ws k)
      (pair_place ws k) (pair_place ws k + 1) (pair_place ws k + 2)) ≡ no_fault)
      × (asked && not_above (written_at ws) k ≡ false))
  parts asked e k h =
      let body = both-pass (head_checks (word ws 0) (word ws 1) (length ws)) (body_checks asked ws (registers ws) (pair_count ws)) e in
      let block = both-pass (block_checks ws (need_words ws)) (pairs_checks asked ws (registers ws) (pair_count ws)) body.1 in
      let rest = both-pass (each_check (pair_checks asked ws (registers ws)) 0 (pair_count ws)) (end_checks ws (pair_place ws (pair_count ws))) block.1 in
      let row = both-pass (own_checks ws (registers ws) k) _ (each_of (pair_checks asked ws (registers ws)) (pair_count ws) rest.0 k h) in
      let own = both-pass (kind_checks (word ws (pair_place ws k)) (word ws (pair_place ws k + 1)) (word ws (pair_place ws k + 2)) (pair_place ws k)) _ row.0 in
      (own.0, (own.1, (passed (order_check asked (written_at ws) k (pair_place ws k) ∷ []) row.1).0))

  pub passed-in : (asked : Bool) → first_fault (checks_by asked ws) ≡ no_fault → ListIn
  passed-in asked e =
      let body = both-pass (head_checks (word ws 0) (word ws 1) (length ws)) (body_checks asked ws (registers ws) (pair_count ws)) e in
      let block = both-pass (block_checks ws (need_words ws)) (pairs_checks asked ws (registers ws) (pair_count ws)) body.1 in
      let needs = both-pass (each_check (need_checks ws) 0 (need_words ws)) _ block.0 in
      let rest = both-pass (each_check (pair_checks asked ws (registers ws)) 0 (pair_count ws)) (end_checks ws (pair_place ws (pair_count ws))) block.1 in
      record {
        head = head_in body.0;
        needs = λ r h. need-in r (each_of (need_checks ws) (need_words ws) needs.0 r h);
        needed = (passed _ needs.1).0;
        kinds = λ k h. kinds-in _ _ _ _ (parts asked e k h).0;
        values = λ k h. values-in _ _ _ _ _ _ (parts asked e k h).1.0;
        end = end-in _ rest.1;
      }

  pub list-in : first_fault (list_checks ws) ≡ no_fault → ListIn
  list-in e = passed-in true e

  -- the order that was asked for
  pub list-ascends : first_fault (list_checks ws) ≡ no_fault → Ascends (written_at ws) (pair_count ws)
  list-ascends e = none_above (written_at ws) (pair_count ws) (λ k h. (parts true e k h).1.1)

  pub list-pass : (asked : Bool) → ListIn → (asked ≡ true → Ascends (written_at ws) (pair_count ws)) → first_fault (checks_by asked ws) ≡ no_fault
  list-pass asked l a =
      pass-both (head_checks (word ws 0) (word ws 1) (length ws)) (body_checks asked ws (registers ws) (pair_count ws)) (head-pass l.head)
      (pass-both (block_checks ws (need_words ws)) (pairs_checks asked ws (registers ws) (pair_count ws))
      (pass-both (each_check (need_checks ws) 0 (need_words ws)) _
      (all_of (need_checks ws) (need_words ws) (λ r h. need-pass r (l.needs r h)))
      (passes _ (l.needed, tt)))
      (pass-both (each_check (pair_checks asked ws (registers ws)) 0 (pair_count ws)) (end_checks ws (pair_place ws (pair_count ws)))
      (all_of (pair_checks asked ws (registers ws)) (pair_count ws)
      (λ k h. pass-both (own_checks ws (registers ws) k) _
      (pass-both _ _ (kinds-pass _ _ _ _ (l.kinds k h)) (values-pass _ _ _ _ _ _ (l.values k h)))
      (order-pass asked (written_at ws) (pair_place ws k) a h)))
      (end-pass _ l.end)))

  -- no need is above the limit
  pub needs-within : ListIn → (r : ℕ) → NeedsIn (hold_at ws r) (setup_at ws r)
  unfolding hold_at setup_at
  needs-within l r = go (ltb r (need_words ws)) refl
    where
      go : (below : Bool) → ltb r (need_words ws) ≡ below → NeedsIn (cond below (hold_of (word ws (1 + r))) 0) (cond below (setup_of (word ws (1 + r))) 0)
      go true e = (l.needs r (ltb-true r (need_words ws) e)).needs
      go false e = record { hold = omega arith; setup = omega arith }

  pub accepted-in : IsAccepted ws → ListIn
  accepted-in a = list-in (accepted→none ws a).none

  -- numbers are returned for accepted lists only
  pub numbers-in : (cs : List Check) (o : Outcome) {xs : List ℕ} → numbers xs ≡ reply_of (answered (list_checks ws ++ cs) o) → ListIn
  numbers-in cs o e = list-in (both-pass (list_checks ws) cs (numbers-none (first_fault (list_checks ws ++ cs)) o e)).0

  -- ---- it can be used

  -- the word after the head is of needs, or else the first of a pair, which is smaller than any of needs
  pub none_below : word ws 1 < first_needs → need_words ws ≡ 0
  none_below h = needs-absent ws (λ e. omega (arith, e))

  needs-second : ListIn → 0 < pair_count ws → first_needs ≤ word ws 1 → need_words ws ≡ registers ws
  needs-second l some h = go (eqb (kind_of (word ws 1)) kind_needs) refl
    where
      go : (is : Bool) → eqb (kind_of (word ws 1)) kind_needs ≡ is → need_words ws ≡ registers ws
      go true e = needs-present ws (eqb-true _ _ e)
      go false e =
          let none = needs-absent ws (eqb-false (kind_of (word ws 1)) kind_needs e) in
          let first : pair_place ws 0 ≡ 1 = omega (arith, none) in
          let kind : kind_of (word ws 1) ≡ kind_pair = rw first at (l.kinds 0 some).kind in
          absurd (omega (arith, kind, h))

  counted-in : ListIn → (k : ℕ) → k < pair_count ws → ValuesIn max_period (registers ws) (pair_at ws k)
  unfolding pair_at
  counted-in l k h =
      let v = (l.values k h).values in
      let s = (needs-within l (written_at ws k).capture).setup in
      record { launch = v.launch; capture = v.capture; order = omega (arith, v.order); limit = omega (arith, v.limit, s) }

  pub list-usable : ListIn → IsUsable ws
  list-usable l =
      let h = l.head in
      record {
        some = h.some;
        most = h.most;
        few = h.few;
        size = omega (arith, h.size);
        second = needs-second l;
        holds = λ k below. (l.values k below).holds;
        values = counted-in l;
      }

  pub accepted-usable : IsAccepted ws → IsUsable ws
  accepted-usable a = list-usable (accepted-in a)

  pub usable-list : {n m : ℕ} → AcceptedList ws n m → UsableList ws n m
  usable-list l = record { usable = accepted-usable l.accepted; registers_are = l.registers_are; pairs_are = l.pairs_are }

  -- ---- its pairs

  -- pair k stands in the list
  pub record Stands (k : ℕ) : Type 0 where
    pub few : k < max_pairs
    pub room : pair_place ws k + 3 < length ws

  pub stands : (k : ℕ) → PairIn ws k → Stands k
  stands k p =
      let u = p.usable in
      record { few = omega (arith, u.few, p.below); room = omega (arith, u.size, p.below) }

  pub needs-from : (k : ℕ) → PairIn ws k → first_needs ≤ word ws 1 → need_words ws ≡ registers ws
  needs-from k p h = p.usable.second (omega (arith, p.below)) h

  pub is-pair : (k : ℕ) → PairIn ws k → IsPair ws k (pair_at ws k)
  is-pair k p = record { same = refl; values = p.usable.values k p.below }

  pub is-written : (k : ℕ) → PairIn ws k → IsWritten ws k (written_at ws k)
  unfolding pair_at
  is-written k p = record { same = refl; holds = p.usable.holds k p.below; values = p.usable.values k p.below }

  -- with its needs counted in it is the pair of the jobs
  pub is-counted : (k : ℕ) {p : Pair} → IsWritten ws k p → IsPair ws k (counting_needs ws p)
  unfolding pair_at
  is-counted k w = record { same = ap (counting_needs ws) w.same; values = w.values }

  -- a property of each pair of the list
  each_from : (P : Pair → Type 0) (k left : ℕ) → ((i : ℕ) → i < k + left → P (pair_at ws i)) → Each P (pairs_from ws k left)
  unfolding pairs_from
  each_from P k zero h = tt
  each_from P k (suc left) h = (h k (omega arith), each_from P (k + 1) left (λ i l. h i (omega arith)))

  pub each-pair : (P : Pair → Type 0) → ((k : ℕ) → k < pair_count ws → P (pair_at ws k)) → Each P (pairs ws)
  each-pair P h = each_from P 0 (pair_count ws) (λ k l. h k (omega arith))

  -- and back: it holds of pair k
  each_at : (P : Pair → Type 0) (from left j : ℕ) → j < left → Each P (pairs_from ws from left) → P (pair_at ws (from + j))
  unfolding pairs_from
  each_at P from zero j h e = absurd (omega arith)
  each_at P from (suc left) zero h e =
      let z : from + 0 ≡ from = omega arith in
      rw z e.0
  each_at P from (suc left) (suc j) h e =
      let z : from + suc j ≡ from + 1 + j = omega arith in
      rw z (each_at P (from + 1) left j (omega arith) e.1)

  pub pair-holds : (P : Pair → Type 0) → Each P (pairs ws) → (k : ℕ) → k < pair_count ws → P (pair_at ws k)
  pair-holds P e k h =
      let z : 0 + k ≡ k = omega arith in
      rw z at (each_at P 0 (pair_count ws) k h e)

  pub pairs-in-range : IsUsable ws → Each (InRange (registers ws)) (pairs ws)
  pairs-in-range u =
      each-pair (InRange (registers ws)) (λ k h.
      let v = u.values k h in
      record { launch = v.launch; capture = v.capture })

  -- no pair asks for more than the longest period
  pub pairs-within : IsUsable ws → Each (λ p. p.greatest ≤ max_period) (pairs ws)
  pairs-within u = each-pair (λ p. p.greatest ≤ max_period) (λ k h. (u.values k h).limit)

  -- it has at least one register, and no more registers and pairs than the limits
  module _ {n m : ℕ} (l : UsableList ws n m) where
    pub some-registers : 0 < n
    some-registers = omega (arith, l.usable.some, l.registers_are)

    pub few-registers : n ≤ max_registers
    few-registers = omega (arith, l.usable.most, l.registers_are)

    pub few-pairs : m ≤ max_pairs
    few-pairs = omega (arith, l.usable.few, l.pairs_are)

    pub pair-in : {k : ℕ} → k < m → PairIn ws k
    pair-in h = record { usable = l.usable; below = omega (arith, l.pairs_are) }

-- ---- walks up and down the list

-- what holds at every place of a walk holds of every pair
pub each-place : (P : ℕ → Type 0) (m : ℕ) (down : Bool) → ((i : ℕ) → i < m → P (place_of m down i)) → (k : ℕ) → k < m → P k
each-place P m false h k l = h k l
each-place P m true h k l =
    let back : m - 1 - (m - 1 - k) ≡ k = omega arith in
    rw back at (h (m - 1 - k) (omega arith))

-- a walk stays among the pairs, and goes from place to place by its step
pub place-below : (m : ℕ) (down : Bool) {i : ℕ} → i < m → place_of m down i < m
place-below m true h = omega arith
place-below m false h = h

pub place-next : (m : ℕ) (down : Bool) (i : ℕ) → m < 2 ^ 64 → i + 1 < m → (place_of m down i + step_of down) % 2 ^ 64 ≡ place_of m down (i + 1)
place-next m true i f h = omega arith
place-next m false i f h = omega arith
