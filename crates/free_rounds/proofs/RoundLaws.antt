-- The rules at each place of a list, and a round over them, up or down the list.
-- A turn relaxes one pair: its two registers rise as far as its rules ask, and past no times that meet the rules of the list
-- (`turned`). What a pair has attained stays attained as times rise further (`reached-more`). After a turn for each place, up or
-- down, every rule has what it asked of the times at the start: that is a round (`part_end`).
use Rattle.std.proofs.Common.{◌≡◌, ℕ, ◌+◌, ◌-◌, ◌<◌, ◌≤◌, Bool, List, length, sym, refl, ap, ◌∙◌, subst, zero-le, le_trans, le_refl}
use Rattle.std.proofs.Common.{add-zero, arith, length-set, below_more}
use Rattle.timing.specs.declared.Pair.{Pair}
use Rattle.timing.specs.Rules.{time, Each, InRange}
use Rattle.timing.specs.Limits.{max_timing}
use Rattle.list_format.specs.Lists.{pair_count, pair_at, pairs, PairIn, IsPair, place_of}
use Rattle.list_format.proofs.ListLaws.{few-registers, few-pairs, pair-in, each-pair, pair-holds, each-place, still-usable}
use Rattle.free_laws.proofs.ConstraintList as rule-list
use Rattle.free_laws.specs.Constraint.{Constraint, Meets, setup, hold, constraints, Below}
use Rattle.free_laws.specs.Raise.{ask, Attained, raise_to, relax_to, Risen, RoundTo}
use Rattle.free_laws.proofs.ConstraintList.{each-rule}
use Rattle.free_laws.proofs.Sweep.{attained-more}
use Rattle.free_laws.proofs.Cycle.{Among}
use Rattle.free_laws.proofs.Cap.{raise-capped, obey-to, Relaxed, relaxed}
use Rattle.free_rounds.specs.Raise.{Raisable, Relaxable, Raising}

-- a register raised leaves a schedule that can be raised
pub raised : {x y : List ℕ} (r v : ℕ) → Raisable x → y ≡ raise_to max_timing r v x → Raisable y
raised {x} r v h e = rw e (record { few = rw (length-set x r _) h.few; capped = raise-capped max_timing r v x h.capped })

-- both rules of pair k are among the rules of the list
pub rules-at : {ws : List ℕ} {k : ℕ} {p : Pair} → IsPair ws k p → k < pair_count ws → Among (pairs ws) p
rules-at {ws} {k} is h t f m =
    subst (λ (q : Pair). Meets f (setup t q) × Meets f (hold q)) (sym is.same)
    (pair-holds ws (λ q. Meets f (setup t q) × Meets f (hold q)) (rule-list.each-pair (Meets f) t (λ q a b. (a, b)) (pairs ws) m) k h)

-- y has the registers of a pair as late as both rules ask of x
abbrev PairAttained : ℕ → List ℕ → List ℕ → Pair → Type 0
PairAttained t x y p = Attained max_timing x y (setup t p) × Attained max_timing x y (hold p)

reached-more : (t : ℕ) (x x' y y' : List ℕ) (p : Pair) → Below x (time x') → Below y (time y')
    → PairAttained t x' y p → PairAttained t x y' p
reached-more t x x' y y' p a b h =
    (attained-more max_timing x x' y y' (setup t p) a b h.0, attained-more max_timing x x' y y' (hold p) a b h.1)

-- ---- turns, each with a pair of the list

module _ {ws : List ℕ} {count t : ℕ} {x₀ : List ℕ} (r : Raising ws count t x₀) where
  pub risen-start : Risen max_timing (constraints t (pairs ws)) x₀ x₀
  risen-start = record { size = refl; capped = r.capped; low = λ f m b. b }

  module _ {k : ℕ} (h : k < count) where
    pub turn-pair : PairIn ws k
    turn-pair = pair-in ws r.list h

    module _ {x : List ℕ} (s : Risen max_timing (constraints t (pairs ws)) x₀ x) {p : Pair} (is : IsPair ws k p) where
      inside : InRange (length x) p
      inside =
          record {
            launch = omega (arith, is.values.launch, s.size, r.list.registers_are);
            capture = omega (arith, is.values.capture, s.size, r.list.registers_are);
          }

      pub turn-ready : Relaxable x p t k
      turn-ready =
          record {
            raisable = record { few = omega (arith, few-registers ws r.list, s.size); capped = s.capped };
            inside = inside;
            order = is.values.order;
            limit = omega (arith, is.values.limit);
            period = r.period;
            place = omega (arith, few-pairs ws r.list, h);
          }

      turned : Relaxed max_timing t p x (relax_to max_timing t p x)
      turned = relaxed max_timing t p x s.capped inside

      pub risen-turn : {y : List ℕ} → y ≡ relax_to max_timing t p x → Risen max_timing (constraints t (pairs ws)) x₀ y
      risen-turn e =
          rw e (record {
            size = turned.size ∙ s.size;
            capped = turned.capped;
            low = λ f m b. let both = rules-at is turn-pair.below t f m in turned.low f both.0 both.1 (s.low f m b);
          })

      -- one rule alone
      module _ {y : List ℕ} where
        obeys : (r : Constraint) → r.dst < length x → ((f : ℕ → ℕ) → Each (Meets f) (constraints t (pairs ws)) → Meets f r)
            → y ≡ raise_to max_timing r.dst (ask r x) x → Risen max_timing (constraints t (pairs ws)) x₀ y
        obeys r b among e =
            let o = obey-to max_timing r x s.capped b in
            rw e (record {
              size = o.size ∙ s.size;
              capped = raise-capped max_timing r.dst (ask r x) x s.capped;
              low = λ f m l. o.low f (among f m) (s.low f m l);
            })

        pub risen-setup : y ≡ raise_to max_timing p.capture (time x p.launch + p.greatest - t) x → Risen max_timing (constraints t (pairs ws)) x₀ y
        risen-setup e = obeys (setup t p) inside.capture (λ f m. (rules-at is turn-pair.below t f m).0) e

        pub risen-hold : y ≡ raise_to max_timing p.launch (time x p.capture - p.least) x → Risen max_timing (constraints t (pairs ws)) x₀ y
        risen-hold e = obeys (hold p) inside.launch (λ f m. (rules-at is turn-pair.below t f m).1) (e ∙ rw add-zero)

-- ---- raises one after the other

pub risen-then : {c : ℕ} {rs : List Constraint} {x y z : List ℕ} → Risen c rs x y → Risen c rs y z → Risen c rs x z
risen-then a b = record { size = b.size ∙ a.size; capped = b.capped; low = λ f m l. b.low f m (a.low f m l) }

pub raising-kept : {ws : List ℕ} {count t : ℕ} {rs : List Constraint} {x y : List ℕ} → Raising ws count t x
    → Risen max_timing rs x y → Raising ws count t y
raising-kept r s =
    record {
      list = still-usable s.size r.list;
      capped = s.capped;
      period = r.period;
    }

-- a round is one
pub round-risen : {c : ℕ} {rs : List Constraint} {x y : List ℕ} → RoundTo c rs x y → Risen c rs x y
round-risen r = record { size = r.round.size; capped = r.capped; low = r.round.low }

-- ---- a round

-- after i turns of a round: the pairs of i places are relaxed
pub record Part (ws : List ℕ) (t : ℕ) (down : Bool) (x₀ x : List ℕ) (i : ℕ) : Type 0 where
  pub bound : i ≤ pair_count ws
  pub risen : Risen max_timing (constraints t (pairs ws)) x₀ x
  pub up : Below x₀ (time x)
  pub attained : (j : ℕ) → j < i → PairAttained t x₀ x (pair_at ws (place_of (pair_count ws) down j))

module _ {ws : List ℕ} {count t : ℕ} {x₀ : List ℕ} (r : Raising ws count t x₀) (down : Bool) where
  pub part-start : Part ws t down x₀ x₀ 0
  part-start = record { bound = zero-le; risen = risen-start r; up = λ j. le_refl _; attained = λ j h. absurd (omega arith) }

  module _ {x : List ℕ} {i : ℕ} (s : Part ws t down x₀ x i) where
    pub part-turn : {k : ℕ} {p : Pair} {y : List ℕ} → (h : k < count) → k ≡ place_of count down i → i < count → IsPair ws k p
        → y ≡ relax_to max_timing t p x → Part ws t down x₀ y (i + 1)
    part-turn {k} {p} h at l is e =
        let z : List ℕ = relax_to max_timing t p x in
        let o = turned r h s.risen is in
        let pair : p ≡ pair_at ws (place_of (pair_count ws) down i) = is.same ∙ ap (pair_at ws) (at ∙ ap (λ m. place_of m down i) r.list.pairs_are) in
        rw e (record {
          bound = omega (arith, r.list.pairs_are);
          risen = risen-turn r h s.risen is refl;
          up = λ j. le_trans (s.up j) (o.up j);
          attained = below_more (λ j. PairAttained t x₀ z (pair_at ws (place_of (pair_count ws) down j))) i
              (λ j b. reached-more t x₀ x₀ x z (pair_at ws (place_of (pair_count ws) down j)) (λ q. le_refl _) o.up (s.attained j b))
              (subst (PairAttained t x₀ z) pair (reached-more t x₀ x z z p s.up (λ q. le_refl _) o.attained));
        })

    pub part_end : count ≤ i → RoundTo max_timing (constraints t (pairs ws)) x₀ x
    part_end h =
        record {
          round = record {
            size = s.risen.size;
            up = s.up;
            low = s.risen.low;
            attained = each-rule (Attained max_timing x₀ x) t (λ p b. b) (pairs ws)
                (each-pair ws (PairAttained t x₀ x)
                (each-place (λ k. PairAttained t x₀ x (pair_at ws k)) (pair_count ws) down (λ j l. s.attained j (omega (arith, r.list.pairs_are)))));
          };
          capped = s.risen.capped;
        }
