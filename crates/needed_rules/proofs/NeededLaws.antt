-- For an accepted list, the rules of the pairs that the jobs take are, pair by pair, the rules with the needs as the words give them.
-- The jobs' pair has the setup added to its greatest delay and the hold taken from its least, above which no hold of an accepted list is.
use mathlib.Core.Bool.{Bool}
use mathlib.Core.List.{List, [], ◌∷◌}
use mathlib.Core.Path.{◌≡◌, refl, sym, ◌∙◌, ap}
use Prim.Native.Nat.{ℕ, ◌+◌, ◌-◌, ◌*◌, ◌≤◌, ◌<◌}
use native.Mathlib.Nat.{add-mul, le_trans}
use native.Mathlib.Omega.{arith}
use lib.IntN.{sub_ℕ}
use Rattle.timing.specs.declared.Pair.{Pair}
use Rattle.timing.specs.Rules.{time, Each, Met, Admissible}
use Rattle.timing.proofs.EachLaws.{each_map}
use Rattle.timing.proofs.MarginLaws.{both-more}
use Rattle.list_format.specs.Lists.{pair_count, hold_at, written_at, pair_at, pairs, IsAccepted}
use Rattle.list_format.proofs.ListLaws.{accepted-in, each-pair, pair-holds}
use Rattle.checker.specs.Check.{margin_at}
use Rattle.checker.specs.declared.Rule.{Rule}
use Rattle.checker.specs.declared.Rule.TheVariants.{Setup, Hold}
use Rattle.free_laws.specs.Free.{common}
use Rattle.free_laws.specs.Rival.{Frac, frac_at, MeetsFrac, RivalAdmissible}
use Rattle.free_laws.proofs.FreeLaws.{common-limit}
use Rattle.plan_laws.specs.Unbeaten.{MeetsOver, WorksOver}
use Rattle.needed_rules.specs.NeededRules.{Iff, EachPair, longest, NeededMet, needed_margin, NeededFrac, NeededOver}

-- what is taken from one side stands on the other, in parts of a whole
parted : (l h u : ℕ) → h ≤ l → (l - h) * u + h * u ≡ l * u
parted l h u le =
    let whole : l - h + h ≡ l = omega arith in
    sym (add-mul (l - h) h u) ∙ ap (λ z. z * u) whole

-- no greatest delay is above the common period
common-each : (ps : List Pair) → Each (λ p. p.greatest ≤ common ps) ps
unfolding common
common-each [] = tt
common-each (p ∷ ps) = (omega arith, each_map (λ q h. omega arith) ps (common-each ps))

module _ (ws : List ℕ) (a : IsAccepted ws) where
  -- no hold is above its pair's least delay
  holds : (k : ℕ) → k < pair_count ws → hold_at ws (written_at ws k).capture ≤ (written_at ws k).least
  holds k h = ((accepted-in ws a).values k h).holds

  -- from pair to pair
  by-pair : (P : Pair → Type 0) (Q : ℕ → Type 0) → ((k : ℕ) → k < pair_count ws → Iff (P (pair_at ws k)) (Q k))
      → Iff (Each P (pairs ws)) (EachPair ws Q)
  by-pair P Q each =
      record { to = λ e k h. (each k h).to (pair-holds ws P e k h); from = λ e. each-pair ws P (λ k h. (each k h).from (e k h)) }

  -- schedules of whole timings
  pub admissible-needed : (t : ℕ) (s : List ℕ) → Iff (Admissible t (pairs ws) s) (EachPair ws (λ k. NeededMet ws k t s))
  unfolding pair_at
  admissible-needed t s =
      by-pair (λ p. Met t (time s p.launch) (time s p.capture) p) (λ k. NeededMet ws k t s) (λ k h.
      record {
        to = λ m. record { setup = m.setup; hold = omega (arith, m.hold, holds k h) };
        from = λ m. record { setup = m.setup; hold = omega (arith, m.hold, holds k h) };
      })

  -- the margins that a check reports
  pub margin-needed : (t : ℕ) (s : List ℕ) (k : ℕ) → k < pair_count ws → (rule : Rule) → margin_at ws t s k rule ≡ needed_margin ws k t s rule
  unfolding pair_at margin_at needed_margin
  margin-needed t s k h Setup = refl
  margin-needed t s k h Hold =
      let p = written_at ws k in
      let hold = hold_at ws p.capture in
      let whole : time s p.launch + (p.least - hold) + hold ≡ time s p.launch + p.least = omega (arith, holds k h) in
      sym (both-more (time s p.launch + (p.least - hold)) (time s p.capture) hold)
      ∙ ap (λ z. sub_ℕ z (time s p.capture + hold)) whole

  -- rival schedules
  pub rival-needed : (t : ℕ) (s : List Frac) → Iff (RivalAdmissible t (pairs ws) s) (EachPair ws (λ k. NeededFrac ws k t s))
  unfolding pair_at
  rival-needed t s =
      by-pair (λ p. MeetsFrac t (frac_at s p.launch) (frac_at s p.capture) p) (λ k. NeededFrac ws k t s) (λ k h.
      let p = written_at ws k in
      let parts = parted p.least (hold_at ws p.capture) ((frac_at s p.capture).den * (frac_at s p.launch).den) (holds k h) in
      record {
        to = λ m. record { setup = m.setup; hold = omega (arith, m.hold, parts) };
        from = λ m. record { setup = m.setup; hold = omega (arith, m.hold, parts) };
      })

  -- rival splits
  pub works-needed : (u t s : ℕ) (c : List Bool) → Iff (WorksOver u t s c (pairs ws)) (EachPair ws (λ k. NeededOver ws k u t s c))
  unfolding pair_at
  works-needed u t s c =
      by-pair (MeetsOver u t s c) (λ k. NeededOver ws k u t s c) (λ k h.
      let p = written_at ws k in
      let parts = parted p.least (hold_at ws p.capture) u (holds k h) in
      record {
        to = λ m. record { setup = m.setup; hold = omega (arith, m.hold, parts) };
        from = λ m. record { setup = m.setup; hold = omega (arith, m.hold, parts) };
      })

  -- the common period: 1, or the largest greatest delay with its setup
  pub common-needed : (t : ℕ) → 1 ≤ t → Iff (common (pairs ws) ≤ t) (EachPair ws (λ k. longest ws k ≤ t))
  unfolding pair_at
  common-needed t some =
      let each = by-pair (λ p. p.greatest ≤ t) (λ k. longest ws k ≤ t) (λ k h. record { to = λ m. m; from = λ m. m }) in
      record {
        to = λ c. each.to (each_map (λ p g. le_trans g c) (pairs ws) (common-each (pairs ws)));
        from = λ e. common-limit t some (pairs ws) (each.from e);
      }
