-- Laws of passes over the pairs: one after the other, pair by pair in either direction, and until nothing changes.
-- A pass changes marks only, so the flags stay what they were. It loses no split that works and agreed with the marks, and its
-- answer says: settled, nothing changed and its pairs force no more; changed, fewer registers are without a mark; clash, no split
-- that works agrees. Two passes make one with the joined answer (`pass-then`), so a sweep is built up pair by pair, and sweeps
-- that change something come to an end.
use mathlib.Core.Path.{◌≡◌, refl, ◌∙◌, ap, subst}
use mathlib.Core.Bool.{Bool, true, false}
use mathlib.Core.List.{List, ◌++◌}
use Prim.Native.Nat.{ℕ, ◌+◌, ◌*◌, ◌≤◌, ◌<◌}
use native.Mathlib.Omega.{arith}
use lib.ListN.{length, take, drop, length-append, length-drop}
use lib.Seq.{drop_at, take_at, length-take-le}
use borrow.Author.Count.{below_more}
use Rattle.buffers.proofs.FillLaws.{drop-further}
use Rattle.timing.specs.declared.Pair.{Pair}
use Rattle.timing.specs.Limits.{per_pair}
use Rattle.list_format.specs.Lists.{pair_count, pair_at, pairs, place_of}
use Rattle.list_format.proofs.ListLaws.{pair-holds, each-place}
use Rattle.split_laws.specs.declared.Change.{Change}
use Rattle.split_laws.specs.declared.Change.TheVariants.{Settled, Changed, Clash}
use Rattle.split_laws.specs.Split.{works}
use Rattle.split_laws.specs.Marks.{unset, MarkTold, MarkStep, joined, Flagged, keeps, Settles}
use Rattle.split_laws.proofs.MarkLaws.{kept-none, kept_then, step-none, step_then, step-with, step-as}
use Rattle.split_laws.proofs.ClosureLaws.{works-each}
use Rattle.propagate.specs.Store.{flags_from, four_at, Recorded}
use Rattle.propagate.specs.Passes.{Working, Pass, PairClosed, AllClosed, Carried, Propagated}
use Rattle.propagate.proofs.StoreLaws.{four-drop}

works_at : (t s : ℕ) (ws : List ℕ) (c : List Bool) (k : ℕ) → works t s (pairs ws) c ≡ true → k < pair_count ws → keeps t s (pair_at ws k) c ≡ true
works_at t s ws c k w l = pair-holds ws (λ p. keeps t s p c ≡ true) (works-each t s c (pairs ws) w) k l

-- the first i pairs, in that order, force nothing more
abbrev pub MarksClosedTo : List ℕ → Bool → ℕ → List ℕ → List ℕ → Type 0
MarksClosedTo ws down i F M = (j : ℕ) → j < i → PairClosed ws (place_of (pair_count ws) down j) F M

module _ (ws : List ℕ) (n : ℕ) where
  -- ---- passes

  pub pass-none : {C : List ℕ → List ℕ → Type 0} (S : List ℕ) → C (drop (flags_from n) S) (take n S) → Pass ws n C S S Settled
  pass-none S h = record { size = refl; rest = refl; step = step-none (take n S) h }

  pub pass-with : {C D : List ℕ → List ℕ → Type 0} {S S' : List ℕ} {o : Change} → ((F M : List ℕ) → C F M → D F M)
      → Pass ws n C S S' o → Pass ws n D S S' o
  pass-with d h = record { size = h.size; rest = h.rest; step = step-with (d _ _) h.step }

  -- a later pass, with the flags of the first
  later : {D : List ℕ → List ℕ → Type 0} (S : List ℕ) {S' S'' : List ℕ} {o : Change} → drop n S' ≡ drop n S → Pass ws n D S' S'' o
      → MarkStep (Working ws (drop (flags_from n) S)) (D (drop (flags_from n) S)) (take n S') (take n S'') o
  later {D} S {S'} {S''} {o} e h =
      subst (λ (F : List ℕ). MarkStep (Working ws F) (D F) (take n S') (take n S'') o)
      (drop-further n (flags_from n) S S' (omega arith) e) h.step

  pub pass-then : {C D : List ℕ → List ℕ → Type 0} {S S' S'' : List ℕ} {o o' o'' : Change} → o'' ≡ joined o o' → Pass ws n C S S' o
      → Pass ws n D S' S'' o' → Pass ws n (λ F M. C F M × D F M) S S'' o''
  pass-then {S = S} e h k = rw e (record { size = k.size ∙ h.size; rest = k.rest ∙ h.rest; step = step_then h.step (later S h.rest k) })

  -- ---- one pair, in the marks lent

  -- The four flags read are those recorded for pair k (`four-drop`), and a split that works meets its rules (`works_at`): so what
  -- is promised of the splits that meet its rules holds of those that work.
  pub pair-pass : (S : List ℕ) {S' M fs : List ℕ} {p : Pair} (k : ℕ) {o : Change} → n ≤ length S → k < pair_count ws
      → p ≡ pair_at ws k → fs ≡ four_at S (flags_from n + per_pair * k) → S' ≡ M ++ drop n S
      → Settles p fs (take n S) M o → Pass ws n (PairClosed ws k) S S' o
  pair-pass S {S'} {M} {fs} {p} k {o} room l ep ef es h = record {
    size = ap length es ∙ rw (length-append, length-drop) (omega (arith, size));
    rest = ap (drop n) es ∙ drop_at M (drop n S) n size;
    step = rw front
        (step-as
        (λ c w a. record {
          period = w.period;
          offset = w.offset;
          flags = flags w.period w.offset w.flags;
          met = rw ep (works_at w.period w.offset ws c k w.works l);
        })
        (λ x t s r. rw ep at (x t s (flags t s r))) h);
  }
    where
      size : length M ≡ n
      size = h.kept.size ∙ length-take-le n S room

      front : take n S' ≡ M
      front = ap (take n) es ∙ take_at M (drop n S) n size

      flags : (t s : ℕ) → Recorded t s ws (drop (flags_from n) S) → Flagged t s p fs
      flags t s r = rw (ep, ef ∙ four-drop (flags_from n) k S) (r.each k l)

  -- ---- all pairs, in either direction

  pub sweep-start : (down : Bool) (S : List ℕ) → Pass ws n (MarksClosedTo ws down 0) S S Settled
  sweep-start down S = pass-none S (λ j l. absurd (omega arith))

  pub sweep-turn : (down : Bool) (i : ℕ) {at : ℕ} {S S' S'' : List ℕ} {o o' o'' : Change} → at ≡ place_of (pair_count ws) down i
      → o'' ≡ joined o o' → Pass ws n (MarksClosedTo ws down i) S S' o → Pass ws n (PairClosed ws at) S' S'' o'
      → Pass ws n (MarksClosedTo ws down (i + 1)) S S'' o''
  sweep-turn down i ea e h k = pass-with (λ F M x. below_more _ i x.0 (rw ea at x.1)) (pass-then e h k)

  pub sweep-end : (down : Bool) {S S' : List ℕ} {o : Change} → Pass ws n (MarksClosedTo ws down (pair_count ws)) S S' o
      → Pass ws n (AllClosed ws) S S' o
  sweep-end down = pass-with (λ F M x. each-place (λ k. PairClosed ws k F M) (pair_count ws) down x)

  -- ---- until nothing changes

  pub carried-start : (S : List ℕ) → Carried ws n S S
  carried-start S = record { size = refl; rest = refl; kept = kept-none _ (take n S) }

  module _ {C : List ℕ → List ℕ → Type 0} {S S' S'' : List ℕ} {o : Change} (c : Carried ws n S S') (h : Pass ws n C S' S'' o) where
    pub carried-turn : Carried ws n S S''
    carried-turn = record { size = h.size ∙ c.size; rest = h.rest ∙ c.rest; kept = kept_then c.kept (later S c.rest h).kept }

    told-as : (x : Change) → o ≡ x → MarkTold x (Working ws (drop (flags_from n) S)) (C (drop (flags_from n) S)) (take n S') (take n S'')
    told-as x e = rw e at (later S c.rest h).told

    pub carried-fewer : o ≡ Changed → unset (take n S'') < unset (take n S')
    carried-fewer e = told-as Changed e

    pub carried-clash : o ≡ Clash → Propagated ws n S S'' false
    carried-clash e = record { carried = carried-turn; said = λ d w a. told-as Clash e d w (c.kept.sound d w a) }

  pub carried-settled : {S S' S'' : List ℕ} {o : Change} (c : Carried ws n S S') (h : Pass ws n (AllClosed ws) S' S'' o)
      → o ≡ Settled → Propagated ws n S S'' true
  carried-settled c h e = record {
    carried = carried-turn c h;
    said = let t = told-as c h Settled e in rw t.0 t.1;
  }
