-- The pooled list of two lists with the same registers and the same needs: it is accepted, and asks for what each of the two asks for.
-- The pairs of both are pairs of the first list (`all_own`), so a list can be made of them (`relist`). What joins holds of its pairs exactly
-- where it holds of the pairs of each (`apart`, `both`).
use Prim.Native.Nat.{ℕ, zero, suc, ◌≤◌, ◌<◌}
use mathlib.Core.Bool.{Bool, true, false, ◌&&◌}
use mathlib.Core.List.{List, ◌++◌}
use mathlib.Core.Logic.{◌⊎◌, inl, inr}
use mathlib.Core.Path.{◌≡◌, refl, sym, ◌∙◌, subst}
use native.Mathlib.Nat.{eq-or-lt_of_le, le_of_suc-le-suc}
use native.Mathlib.Omega.{arith}
use lib.Dec.{eqb}
use lib.ListN.{length}
use borrow.Author.Tests.{eqb-true, eq-eqb}
use Rattle.timing.specs.declared.Pair.{Pair}
use Rattle.timing.specs.Rules.{Each, time, admissible}
use Rattle.timing.specs.Limits.{max_registers, max_pairs}
use Rattle.timing.proofs.EachLaws.{each_map, each-zip, each_append, append-each}
use Rattle.timing.proofs.RuleLaws.{and-true}
use Rattle.ordering.specs.Order.{Ascending, Narrow, Joins}
use Rattle.ordering.proofs.OrderLaws.{ordered-whole, ordered-ascending, ordered-narrow, ordered-each, each-ordered}
use Rattle.ordering.proofs.UniqueLaws.{ascending-unique}
use Rattle.buffers.proofs.PadLaws.{run-same}
use Rattle.list_format.specs.Lists.{registers, hold_at, setup_at, two_at, needs_of, counting_needs, pairs}
use Rattle.list_format.proofs.ListLaws.{ListIn}
use Rattle.free_laws.specs.Constraint.{Meets, setup, hold}
use Rattle.free_laws.proofs.ConstraintList.{each-rule, each-pair, admissible→meets, meets→admissible}
use Rattle.same_answers.proofs.JoinsLaws.{meets-joins, rival-joins, over-joins}
use Rattle.converter.specs.Convert.{written_pairs}
use Rattle.relist.proofs.RelistLaws.{counted-joins, Own, own-whole, written-own, each-counted, counted-each}
use Rattle.relist.proofs.RelistLaws.{relisted-accepted, relisted-registers, relisted-needs, each-relisted, relisted-each}
use Rattle.merging.specs.Merge.{pooled_pairs}
use Rattle.pooling.specs.Pool.{pooled, same_needs, StandsFor}

-- ---- the needs

-- the same for each register
pub same_at : (ws vs : List ℕ) (n : ℕ) → same_needs ws vs n ≡ true → (r : ℕ) → r < n → (hold_at ws r ≡ hold_at vs r) × (setup_at ws r ≡ setup_at vs r)
unfolding same_needs
same_at ws vs zero e r h = absurd (omega arith)
same_at ws vs (suc n) e r h =
    let both = and-true (same_needs ws vs n) (eqb (hold_at ws n) (hold_at vs n) && eqb (setup_at ws n) (setup_at vs n)) e in
    let here = and-true (eqb (hold_at ws n) (hold_at vs n)) (eqb (setup_at ws n) (setup_at vs n)) both.1 in
    go (eq-or-lt_of_le (le_of_suc-le-suc h)) (same_at ws vs n both.0 r) (eqb-true _ _ here.0) (eqb-true _ _ here.1)
  where
    go : (r ≡ n) ⊎ (r < n) → (r < n → (hold_at ws r ≡ hold_at vs r) × (setup_at ws r ≡ setup_at vs r)) → hold_at ws n ≡ hold_at vs n
        → setup_at ws n ≡ setup_at vs n → (hold_at ws r ≡ hold_at vs r) × (setup_at ws r ≡ setup_at vs r)
    go (inl s) before a b = (rw s a, rw s b)
    go (inr l) before a b = before l

-- and back
pub at_same : (ws vs : List ℕ) (n : ℕ) → ((r : ℕ) → r < n → (hold_at ws r ≡ hold_at vs r) × (setup_at ws r ≡ setup_at vs r)) → same_needs ws vs n ≡ true
unfolding same_needs
at_same ws vs zero h = refl
at_same ws vs (suc n) h =
    let here = h n (omega arith) in
    rw (at_same ws vs n (λ r l. h r (omega arith)), eq-eqb (hold_at ws n) (hold_at vs n) here.0, eq-eqb (setup_at ws n) (setup_at vs n) here.1)

-- ---- two lists of one chip

pub record OneChip (ws vs : List ℕ) : Type 0 where
  pub first : ListIn ws
  pub second : ListIn vs
  pub registers_are : registers ws ≡ registers vs
  pub needs_are : same_needs ws vs (registers ws) ≡ true

-- the other way round
pub turned-chip : {ws vs : List ℕ} → OneChip ws vs → OneChip vs ws
turned-chip {ws} {vs} c = record {
  first = c.second;
  second = c.first;
  registers_are = sym c.registers_are;
  needs_are = at_same vs ws (registers vs) (λ r l.
      let s = same_at ws vs (registers ws) c.needs_are r (omega (arith, l, c.registers_are)) in
      (sym s.0, sym s.1));
}

module _ (ws vs : List ℕ) (c : OneChip ws vs) where
  pub same-needs : needs_of ws ≡ needs_of vs
  same-needs =
      rw (← c.registers_are) (run-same (two_at ws) (two_at vs) (registers ws) (λ r l.
      let s = same_at ws vs (registers ws) c.needs_are r l in
      rw (s.0, s.1)))

  -- ---- their pairs

  own-of-second : (p : Pair) → Own vs p → Own ws p
  own-of-second p o =
      let v = o.1.values in
      let s = same_at ws vs (registers ws) c.needs_are p.capture (omega (arith, v.capture, c.registers_are)) in (
        o.0,
        record {
          values = record {
            launch = omega (arith, v.launch, c.registers_are);
            capture = omega (arith, v.capture, c.registers_are);
            order = v.order;
            limit = v.limit;
          };
          holds = omega (arith, o.1.holds, s.0);
        },
      )

  all_own : Each (Own ws) (written_pairs ws ++ written_pairs vs)
  all_own =
      each_append (Own ws) (written_pairs ws) (written_pairs vs) (written-own ws c.first)
      (each_map own-of-second (written_pairs vs) (written-own vs c.second))

  pub all-narrow : Narrow (written_pairs ws ++ written_pairs vs)
  all-narrow = each_map (λ p o. o.0) (written_pairs ws ++ written_pairs vs) all_own

  pub pooled-own : Each (Own ws) (pooled_pairs ws vs)
  pooled-own = ordered-whole (Own ws) (own-whole ws) (written_pairs ws ++ written_pairs vs) all_own

  -- counted in by the needs of either list, a pair of the second is the same
  counted_same : (p : Pair) → Own vs p → counting_needs ws p ≡ counting_needs vs p
  counted_same p o =
      let s = same_at ws vs (registers ws) c.needs_are p.capture (omega (arith, o.1.values.capture, c.registers_are)) in
      rw (s.0, s.1)

  -- ---- the pooled list

  module _ (few : length (pooled_pairs ws vs) ≤ max_pairs) where
    -- what joins holds of its pairs exactly where it holds of the pairs of both
    module _ (P : Pair → Type 0) (joins : Joins P) where
      apart : Each P (pairs (pooled ws vs)) → Each P (pairs ws) × Each P (pairs vs)
      apart h =
          let all = each-ordered (λ p. P (counting_needs ws p)) (counted-joins ws P joins) (written_pairs ws ++ written_pairs vs) all-narrow
          (relisted-each ws c.first (pooled_pairs ws vs) few pooled-own P h) in
          let two = append-each (λ p. P (counting_needs ws p)) (written_pairs ws) (written_pairs vs) all in (
            counted-each ws P two.0,
            counted-each vs P (each-zip (λ p o x. subst P (counted_same p o) x) (written_pairs vs) (written-own vs c.second) two.1),
          )

      both : Each P (pairs ws) → Each P (pairs vs) → Each P (pairs (pooled ws vs))
      both h g =
          let second = each-zip (λ p o x. subst P (sym (counted_same p o)) x) (written_pairs vs) (written-own vs c.second) (each-counted vs P g) in
          each-relisted ws c.first (pooled_pairs ws vs) few pooled-own P
          (ordered-each (λ p. P (counting_needs ws p)) (counted-joins ws P joins) (written_pairs ws ++ written_pairs vs) all-narrow
          (each_append (λ p. P (counting_needs ws p)) (written_pairs ws) (written_pairs vs) (each-counted ws P h) second))

    pub pooled-stands : StandsFor ws vs (pooled ws vs)
    pooled-stands =
        let n = relisted-registers ws c.first (pooled_pairs ws vs) few pooled-own in
        let needs = relisted-needs ws c.first (pooled_pairs ws vs) few pooled-own in
        record {
          accepted = relisted-accepted ws c.first (pooled_pairs ws vs) few pooled-own (ordered-ascending (written_pairs ws ++ written_pairs vs));
          registers_are = (n, n ∙ c.registers_are);
          needs_are = (needs, needs ∙ same-needs);
          schedules = λ t s. conjunction _ _ _ (schedule-apart t s) (schedule-both t s);
          rivals = λ t s. (apart _ (rival-joins t s), λ h. both _ (rival-joins t s) h.0 h.1);
          works = λ u t s k. (apart _ (over-joins u t s k), λ h. both _ (over-joins u t s k) h.0 h.1);
        }
      where
        conjunction : (a b d : Bool) → (a ≡ true → (b ≡ true) × (d ≡ true)) → (b ≡ true → d ≡ true → a ≡ true) → a ≡ b && d
        conjunction true b d f g = rw ((f refl).0, (f refl).1)
        conjunction false true true f g = g refl refl
        conjunction false true false f g = refl
        conjunction false false d f g = refl

        -- a schedule by the rules of each pair
        rules : (t : ℕ) (s : List ℕ) (ps : List Pair) → admissible t ps s ≡ true → Each (λ p. Meets (time s) (setup t p) × Meets (time s) (hold p)) ps
        rules t s ps e = each-pair (Meets (time s)) t (λ p a b. (a, b)) ps (admissible→meets t ps s e)

        from-rules : (t : ℕ) (s : List ℕ) (ps : List Pair) → Each (λ p. Meets (time s) (setup t p) × Meets (time s) (hold p)) ps → admissible t ps s ≡ true
        from-rules t s ps h = meets→admissible t ps s (each-rule (Meets (time s)) t (λ p b. b) ps h)

        schedule-apart : (t : ℕ) (s : List ℕ) → admissible t (pairs (pooled ws vs)) s ≡ true
            → (admissible t (pairs ws) s ≡ true) × (admissible t (pairs vs) s ≡ true)
        schedule-apart t s e =
            let two = apart _ (meets-joins t (time s)) (rules t s (pairs (pooled ws vs)) e) in
            (from-rules t s (pairs ws) two.0, from-rules t s (pairs vs) two.1)

        schedule-both : (t : ℕ) (s : List ℕ) → admissible t (pairs ws) s ≡ true → admissible t (pairs vs) s ≡ true
            → admissible t (pairs (pooled ws vs)) s ≡ true
        schedule-both t s a b =
            from-rules t s (pairs (pooled ws vs)) (both _ (meets-joins t (time s)) (rules t s (pairs ws) a) (rules t s (pairs vs) b))

-- ---- the order of the two does not matter

pub pairs-turned : (ws vs : List ℕ) → OneChip ws vs → pooled_pairs vs ws ≡ pooled_pairs ws vs
pairs-turned ws vs c =
    let there = all-narrow vs ws (turned-chip c) in
    let here = all-narrow ws vs c in
    ascending-unique (pooled_pairs vs ws) (pooled_pairs ws vs) (ordered-narrow (written_pairs vs ++ written_pairs ws) there)
    (ordered-narrow (written_pairs ws ++ written_pairs vs) here) (ordered-ascending (written_pairs vs ++ written_pairs ws))
    (ordered-ascending (written_pairs ws ++ written_pairs vs))
    (λ P joins h. ordered-each P joins (written_pairs ws ++ written_pairs vs) here
    (swap P (written_pairs vs) (written_pairs ws) (each-ordered P joins (written_pairs vs ++ written_pairs ws) there h)))
    (λ P joins h. ordered-each P joins (written_pairs vs ++ written_pairs ws) there
    (swap P (written_pairs ws) (written_pairs vs) (each-ordered P joins (written_pairs ws ++ written_pairs vs) here h)))
  where
    swap : (P : Pair → Type 0) (ps qs : List Pair) → Each P (ps ++ qs) → Each P (qs ++ ps)
    swap P ps qs h =
        let two = append-each P ps qs h in
        each_append P qs ps two.1 two.0

pub pooled-turned : (ws vs : List ℕ) → OneChip ws vs → pooled vs ws ≡ pooled ws vs
pooled-turned ws vs c = rw (← same-needs ws vs c, ← c.registers_are, pairs-turned ws vs c)

-- ---- with itself

pub pairs-itself : (ws : List ℕ) → ListIn ws → Ascending (written_pairs ws) → pooled_pairs ws ws ≡ written_pairs ws
pairs-itself ws l a =
    let chip : OneChip ws ws = record { first = l; second = l; registers_are = refl; needs_are = at_same ws ws (registers ws) (λ r b. (refl, refl)) } in
    let narrow = all-narrow ws ws chip in
    let one : Narrow (written_pairs ws) = (append-each (λ p. p.capture < max_registers) (written_pairs ws) (written_pairs ws) narrow).0 in
    ascending-unique (pooled_pairs ws ws) (written_pairs ws) (ordered-narrow (written_pairs ws ++ written_pairs ws) narrow) one
    (ordered-ascending (written_pairs ws ++ written_pairs ws)) a
    (λ P joins h. (append-each P (written_pairs ws) (written_pairs ws) (each-ordered P joins (written_pairs ws ++ written_pairs ws) narrow h)).0)
    (λ P joins h. ordered-each P joins (written_pairs ws ++ written_pairs ws) narrow (each_append P (written_pairs ws) (written_pairs ws) h h))
