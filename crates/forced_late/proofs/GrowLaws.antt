-- Steps that grow the forest, one after the other: nothing that is there is lost, and each that marks a register leaves fewer without a depth.
use mathlib.Core.Path.{◌≡◌, refl, sym, ap, ◌∙◌, subst, subst⁻¹}
use mathlib.Core.Logic.{inl, inr}
use mathlib.Core.Bool.{Bool, true, false, ◌||◌}
use mathlib.Core.List.{List}
use Prim.Native.Nat.{ℕ, zero, suc, ◌+◌, ◌*◌, ◌/◌, ◌%◌, ◌≤◌, ◌<◌}
use native.Mathlib.Decide.{ℕ_discrete}
use native.Mathlib.Omega.{arith}
use lib.ListN.{length, take}
use borrow.Author.Count.{below_more}
use lib.Seq.{length-take-le}
use Rattle.timing.specs.Limits.{per_pair, max_registers}
use Rattle.list_format.specs.Lists.{pair_count, pair_at, UsableList}
use Rattle.list_format.proofs.ListLaws.{few-registers}
use Rattle.split_laws.specs.Marks.{unset}
use Rattle.propagate.proofs.StoreLaws.{lent-kept}
use Rattle.forced_late.specs.Forest.{depth_of, IsBroken, is_inner, inner, early_early, early_late, late_early, source_of, put_at}
use Rattle.forced_late.specs.Forest.{Root, Child, Forest, Growing, MarkedAs, Marked, GrowTold, Grew, Grows, Along, Forces, PairForces, AllForce}
use Rattle.forced_late.specs.Forest.{SettledAs, IsSeeded, Roots, Rooted, Seeding, Blank, ForcedLate}
use Rattle.forced_late.proofs.ForestLaws.{inner-most, still-broken, ends-in}
use Rattle.forced_late.proofs.ForestLaws.{put-size, put_rest, put-inner, put-fewer, put-depth, put-depth-other, put-kept, forest-put}

-- ---- steps

module _ (ws : List ℕ) (n : ℕ) where
  pub grew_none : (S : List ℕ) → Forest ws n S → Grew ws n S S
  grew_none S f = record { size = refl; rest = refl; kept = λ r h l. refl; forest = f }

  pub grew_then : {S S' S'' : List ℕ} → Grew ws n S S' → Grew ws n S' S'' → Grew ws n S S''
  grew_then {S} {S'} {S''} h k = record {
    size = k.size ∙ h.size;
    rest = k.rest ∙ h.rest;
    kept = λ r b l. k.kept r b (omega (arith, h.kept r b l)) ∙ h.kept r b l;
    forest = k.forest;
  }

  pub grows_none : {C : List ℕ → Type 0} (S : List ℕ) → Forest ws n S → C S → Grows ws n C S S false
  grows_none S f c = record { grew = grew_none S f; told = (refl, c) }

  pub grows-with : {C D : List ℕ → Type 0} {S S' : List ℕ} {o : Bool} → (C S → D S) → Grows ws n C S S' o → Grows ws n D S S' o
  grows-with {C} {D} {S} {S'} {o} d h = record { grew = h.grew; told = go o h.told }
    where
      go : (o : Bool) → GrowTold o n C S S' → GrowTold o n D S S'
      go false t = (t.0, d t.1)
      go true t = t

  told-then : (C D : List ℕ → Type 0) (S S' S'' : List ℕ) (o o' : Bool) → GrowTold o n C S S' → GrowTold o' n D S' S''
      → GrowTold (o || o') n (λ (X : List ℕ). C X × D X) S S''
  told-then C D S S' S'' false false h k = (k.0 ∙ h.0, (h.1, subst D h.0 k.1))
  told-then C D S S' S'' false true h k = subst (λ (X : List ℕ). unset (take n S'') < unset (take n X)) h.0 k
  told-then C D S S' S'' true false h k = subst⁻¹ (λ (X : List ℕ). unset (take n X) < unset (take n S)) k.0 h
  told-then C D S S' S'' true true h k = omega arith

  pub grows_then : {C D : List ℕ → Type 0} {S S' S'' : List ℕ} {o o' o'' : Bool} → o'' ≡ (o || o') → Grows ws n C S S' o
      → Grows ws n D S' S'' o'
      → Grows ws n (λ (X : List ℕ). C X × D X) S S'' o''
  grows_then {C} {D} {S} {S'} {S''} {o} {o'} e h k =
      rw e (record { grew = grew_then h.grew k.grew; told = told-then C D S S' S'' o o' h.told k.told })

  pub growing-kept : {m : ℕ} {S S' : List ℕ} → Growing ws n m S → Grew ws n S S' → Growing ws n m S'
  growing-kept g h = record { lent = lent-kept g.lent h.size; forest = h.forest }

  -- a depth is a small number
  pub depth-few : {m : ℕ} (S : List ℕ) → Growing ws n m S → (r : ℕ) → r < n → depth_of S r ≤ 1 + max_registers
  depth-few S g r h =
      omega (arith, g.forest.deep r h, inner-most (take n S), length-take-le n S (omega (arith, g.lent.room)), few-registers ws g.lent.list)

  -- ---- along one step

  module _ {m : ℕ} (S : List ℕ) (g : Growing ws n m S) where
    room : 2 * n ≤ length S
    room = omega (arith, g.lent.room)

    pub forces-early : (from to e : ℕ) → depth_of S from ≡ 0 → Grows ws n (Forces n from to e) S S false
    forces-early from to e h = grows_none S g.forest (λ b l. absurd (omega arith))

    inner_of : (d : ℕ) → 1 ≤ d → is_inner (d + 1) ≡ 1
    inner_of zero h = absurd (omega arith)
    inner_of (suc d) h = let z : suc d + 1 ≡ suc (suc d) = omega arith in rw z refl

    pub forces-marked : {S' : List ℕ} {from to e d : ℕ} {o : Bool} → Along ws n from to e → IsBroken n S e → 1 ≤ depth_of S from
        → d ≡ depth_of S from + 1 → Marked n to d e S S' o → Grows ws n (Forces n from to e) S S' o
    forces-marked {S'} {from} {to} {e} {d} {o} a b l ed h = go o h.is
      where
        go : (o : Bool) → MarkedAs o n to d e S S' → Grows ws n (Forces n from to e) S S' o
        go false z = rw z.0 (grows_none S g.forest (λ _ _. z.1))
        go true z = rw z.0 (record {
          grew = record {
            size = put-size n S to d e a.to_in room z.1;
            rest = put_rest n S to d e a.to_in room z.1;
            kept = put-kept n S to d e a.to_in room z.1;
            forest = forest-put n S to d e a.to_in room z.1 g.lent.list g.forest (inr child) limit;
          };
          told = put-fewer n S to d e a.to_in room z.1 (omega (arith, ed));
        })
          where
            limit : d ≤ 1 + inner (take n (put_at n to d e S))
            limit =
                omega (arith, put-inner n S to d e a.to_in room z.1, inner_of (depth_of S from) l, ap is_inner ed, g.forest.deep from a.from_in, ed)

            same : depth_of (put_at n to d e S) (source_of ws e) ≡ depth_of S from
            same = rw (← a.from_is) (put-kept n S to d e a.to_in room z.1 from a.from_in l)

            child : Child ws n (put_at n to d e S) e to
            child = record {
              row = a.row;
              place = a.place;
              breaks = still-broken n S (put_at n to d e S) (put_rest n S to d e a.to_in room z.1) e ∙ b;
              target = sym a.to_is;
              late = omega (arith, same);
              depth = put-depth n S to d e a.to_in room z.1 ∙ (ed ∙ ap (λ (y : ℕ). y + 1) (sym same));
            }

  -- the two steps of pair k
  module _ {m : ℕ} (list : UsableList ws n m) (k : ℕ) (h : k < pair_count ws) where
    pub along-ahead : Along ws n (pair_at ws k).launch (pair_at ws k).capture (per_pair * k + late_early)
    along-ahead =
        let row : (per_pair * k + late_early) % per_pair ≡ late_early = omega arith in
        let index : (per_pair * k + late_early) / per_pair ≡ k = omega arith in
        record {
          row = inl row;
          place = rw index h;
          from_is = rw (row, index) refl;
          to_is = rw (row, index) refl;
          from_in = (ends-in list k h).0;
          to_in = (ends-in list k h).1;
        }

    pub along-back : Along ws n (pair_at ws k).capture (pair_at ws k).launch (per_pair * k + early_late)
    along-back =
        let row : (per_pair * k + early_late) % per_pair ≡ early_late = omega arith in
        let index : (per_pair * k + early_late) / per_pair ≡ k = omega arith in
        record {
          row = inr row;
          place = rw index h;
          from_is = rw (row, index) refl;
          to_is = rw (row, index) refl;
          from_in = (ends-in list k h).1;
          to_in = (ends-in list k h).0;
        }

  -- ---- all pairs

  -- the first i pairs force nothing more
  abbrev pub ForceTo : ℕ → List ℕ → Type 0
  ForceTo i S = (j : ℕ) → j < i → PairForces ws n j S

  pub sweep-start : (S : List ℕ) → Forest ws n S → Grows ws n (ForceTo 0) S S false
  sweep-start S f = grows_none S f (λ j l. absurd (omega arith))

  pub sweep-turn : (i : ℕ) {S S' S'' : List ℕ} {o o' o'' : Bool} → o'' ≡ (o || o') → Grows ws n (ForceTo i) S S' o
      → Grows ws n (PairForces ws n i) S' S'' o' → Grows ws n (ForceTo (i + 1)) S S'' o''
  sweep-turn i {S} e h k = grows-with (λ x. below_more (λ j. PairForces ws n j S) i x.0 x.1) (grows_then e h k)

  -- ---- until nothing is marked

  pub settle-fewer : {C : List ℕ → Type 0} {S S' : List ℕ} {o : Bool} → Grows ws n C S S' o → o ≡ true
      → unset (take n S') < unset (take n S)
  settle-fewer {C} {S} {S'} {o} h e = subst (λ (b : Bool). GrowTold b n C S S') e h.told

  pub settle-end : {S S' S'' : List ℕ} {o : Bool} → Grew ws n S S' → Grows ws n (AllForce ws n) S' S'' o → o ≡ false → SettledAs ws n S S''
  settle-end {S} {S'} {S''} {o} g h e =
      let t : GrowTold false n (AllForce ws n) S' S'' = subst (λ (b : Bool). GrowTold b n (AllForce ws n) S' S'') e h.told in
      record { grew = grew_then g h.grew; closed = subst⁻¹ (AllForce ws n) t.0 t.1 }

  -- ---- the roots

  seeded-kept : {m : ℕ} {S S' : List ℕ} (k : ℕ) → UsableList ws n m → k < pair_count ws → Grew ws n S S'
      → IsSeeded ws n k S → IsSeeded ws n k S'
  seeded-kept {m} {S} {S'} k list h g e b =
      let d : depth_of S (pair_at ws k).capture ≡ 1 = e (sym (still-broken n S S' g.rest (per_pair * k + early_early)) ∙ b) in
      g.kept (pair_at ws k).capture (ends-in list k h).1 (omega (arith, d)) ∙ d

  module _ {m : ℕ} (S : List ℕ) (x : Roots ws n m S) (k : ℕ) (h : k < pair_count ws) where
    pub rooted-not : (IsBroken n S (per_pair * k + early_early) → ⊥) → Rooted ws n k S S
    rooted-not ne = record { grew = grew_none S x.growing.forest; flat = x.flat; seeded = λ b. absurd (ne b) }

    pub rooted-marked : {S' : List ℕ} {o : Bool} → IsBroken n S (per_pair * k + early_early)
        → Marked n (pair_at ws k).capture 1 (per_pair * k + early_early) S S' o → Rooted ws n k S S'
    rooted-marked {S'} {o} b w = go o w.is
      where
        r : ℕ
        r = (pair_at ws k).capture

        go : (o : Bool) → MarkedAs o n (pair_at ws k).capture 1 (per_pair * k + early_early) S S' → Rooted ws n k S S'
        go false z = rw z.0 (record {
          grew = grew_none S x.growing.forest;
          flat = x.flat;
          seeded = λ _. omega (arith, x.flat (pair_at ws k).capture (ends-in x.growing.lent.list k h).1, z.1);
        })
        go true z = rw z.0 (record {
          grew = record {
            size = put-size n S r 1 e inside fits z.1;
            rest = put_rest n S r 1 e inside fits z.1;
            kept = put-kept n S r 1 e inside fits z.1;
            forest = forest-put n S r 1 e inside fits z.1 x.growing.lent.list x.growing.forest (inl root) (omega arith);
          };
          flat = flat;
          seeded = λ _. put-depth n S r 1 e inside fits z.1;
        })
          where
            e : ℕ
            e = per_pair * k + early_early

            inside : r < n
            inside = (ends-in x.growing.lent.list k h).1

            fits : 2 * n ≤ length S
            fits = omega (arith, x.growing.lent.room)

            row : e % per_pair ≡ early_early
            row = omega arith

            index : e / per_pair ≡ k
            index = omega arith

            root : Root ws n (put_at n r 1 e S) e r
            root = record {
              row = row;
              place = rw index h;
              breaks = still-broken n S (put_at n r 1 e S) (put_rest n S r 1 e inside fits z.1) e ∙ b;
              capture = rw index refl;
              depth = put-depth n S r 1 e inside fits z.1;
            }

            flat : (q : ℕ) → q < n → depth_of (put_at n r 1 e S) q ≤ 1
            flat q l = at (ℕ_discrete q r)
              where
                at : Dec (q ≡ r) → depth_of (put_at n r 1 e S) q ≤ 1
                at (yes y) = omega (arith, ap (depth_of (put_at n r 1 e S)) y, put-depth n S r 1 e inside fits z.1)
                at (no y) = omega (arith, put-depth-other n S r 1 e inside fits z.1 q l y, x.flat q l)

  pub seed-start : {m : ℕ} (S : List ℕ) → Blank ws n m S → Seeding ws n S S 0
  seed-start S b = record {
    grew = grew_none S (record { grown = λ r h l. absurd (omega (arith, b.blank r h)); deep = λ r h. omega (arith, b.blank r h) });
    flat = λ r h. omega (arith, b.blank r h);
    seeded = λ j l. absurd (omega arith);
  }

  pub seed-roots : {m k : ℕ} {S S' : List ℕ} → Blank ws n m S → Seeding ws n S S' k → Roots ws n m S'
  seed-roots b h = record {
    growing = record { lent = lent-kept b.lent h.grew.size; forest = h.grew.forest };
    flat = h.flat;
  }

  pub seed-turn : {m : ℕ} (k : ℕ) {S S' S'' : List ℕ} → UsableList ws n m → k < pair_count ws → Seeding ws n S S' k → Rooted ws n k S' S''
      → Seeding ws n S S'' (k + 1)
  seed-turn k {S} {S'} {S''} list l h x = record {
    grew = grew_then h.grew x.grew;
    flat = x.flat;
    seeded = below_more (λ j. IsSeeded ws n j S'') k (λ j b. seeded-kept j list (omega arith) x.grew (h.seeded j b)) x.seeded;
  }

  -- ---- the whole

  pub forced : {m : ℕ} {S S' S'' S''' : List ℕ} → Blank ws n m S → Seeding ws n S S' m → Grew ws n S' S'' → SettledAs ws n S'' S'''
      → ForcedLate ws n S S'''
  forced {m} {S} {S'} {S''} {S'''} b s w c =
      let list = b.lent.list in
      let later : Grew ws n S' S''' = grew_then w c.grew in
      record {
        grew = grew_then s.grew later;
        seeded = λ k l. seeded-kept k list l later (s.seeded k (omega (arith, list.pairs_are)));
        closed = c.closed;
      }
