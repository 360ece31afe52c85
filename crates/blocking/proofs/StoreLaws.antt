-- What is stored: the path in the scratch, and the chains in the answer buffer, piece by piece.
use mathlib.Core.Path.{◌≡◌, refl, sym, ap, ◌∙◌}
use mathlib.Core.Bool.{true, false}
use mathlib.Core.List.{List, [], ◌∷◌, ◌++◌, append_assoc}
use Prim.Native.Nat.{ℕ, suc, ◌+◌, ◌-◌, ◌*◌, ◌/◌, ◌≤◌, ◌<◌}
use native.Mathlib.Omega.{arith}
use lib.ListN.{length, get_or, take, drop, set, length-append, length-drop, get_or-append}
use lib.Seq.{get_or-take, get_or-drop, length-take-le, get_or-append-add, ext_get_or}
use borrow.Author.Tests.{eq-eqb, ne_eqb}
use Rattle.timing.specs.Limits.{per_pair, max_pairs, max_registers, scratch_places}
use Rattle.buffers.specs.Over.{over}
use Rattle.buffers.proofs.RunLaws.{run_at}
use Rattle.buffers.proofs.PadLaws.{run-same}
use Rattle.buffers.proofs.FillLaws.{Filled, filled-self, filled-size, filled-later, set-put, over-more}
use Rattle.buffers.proofs.FillLaws.{Filling, filling-start, filling-size, filling-end, filling-turn}
use Rattle.list_format.specs.Lists.{pair_count, pair_at}
use Rattle.list_format.proofs.ListLaws.{few-registers}
use Rattle.forced_late.specs.Forest.{late_early, late_late, step_to, source_of}
use Rattle.forced_late.proofs.ForestLaws.{inner-most}
use Rattle.blocking.specs.Paths.{ancestor, step_up, height_of, path_up, path_down, first_chain, chain_by, Late, Traced, path_in}
use Rattle.blocking.proofs.PathLaws.{up, up-child}
use Rattle.blocking.proofs.ChainsLaws.{path-size}

-- ---- the path in the scratch

-- a place before those that are filled is as it was
earlier : (k j : ℕ) (ys was now : List ℕ) → k ≤ length was → Filled (take k was ++ ys) was now → j < k → get_or now j 0 ≡ get_or was j 0
earlier k j ys was now h f l =
    let e : length (take k was) ≡ k = length-take-le k was h in
    ap (λ (x : List ℕ). get_or x j 0) f.is
    ∙ (get_or-append (take k was ++ ys) _ 0 j (rw (length-append (take k was) ys) (omega (arith, e)))
    ∙ (get_or-append (take k was) ys 0 j (omega (arith, e)) ∙ get_or-take k was j 0 l))

module _ (ws : List ℕ) (n m r : ℕ) (S : List ℕ) (l : Late ws n m S r) where
  -- i steps are stored, and `at` is the register that they come to
  pub record Tracing (height : ℕ) (S' : List ℕ) (at i : ℕ) : Type 0 where
    pub height_is : height ≡ height_of S r
    pub at_is : at ≡ ancestor ws n S r i
    pub filling : Filling (take (2 * n) S) (λ (i : ℕ). step_up ws n S r i ∷ []) height S S' i

  room : 2 * n ≤ length S
  room = omega (arith, l.growing.lent.room)

  front : length (take (2 * n) S) ≡ 2 * n
  front = length-take-le (2 * n) S room

  -- the path is no longer than there are registers
  pub height-few : height_of S r ≤ n
  height-few =
      omega (arith, l.growing.forest.deep r l.inside, inner-most (take n S), length-take-le n S (omega (arith, l.growing.lent.room)))

  pub tracing-start : {height : ℕ} → height ≡ height_of S r → Tracing height S r 0
  unfolding ancestor
  tracing-start e = record { height_is = e; at_is = refl; filling = filling-start (filled-self (2 * n) S room) }

  module _ {height : ℕ} {S' : List ℕ} {at i : ℕ} (x : Tracing height S' at i) (h : i < height) where
    at_in : at < n
    at_in = rw x.at_is (up S r l i (omega (arith, x.height_is))).inside

    pub tracing-size : length S' ≡ length S
    tracing-size = filling-size x.filling

    pub tracing-reads : n + at < length S'
    tracing-reads = omega (arith, at_in, tracing-size, room)

    pub tracing-few : (n + at ≤ 2 * max_registers) × (2 * n + i ≤ 3 * max_registers)
    tracing-few = (
      omega (arith, at_in, few-registers ws l.growing.lent.list),
      omega (arith, x.height_is, height-few, few-registers ws l.growing.lent.list),
    )

    pub tracing-writes : 2 * n + i < length S'
    tracing-writes = omega (arith, tracing-size, x.height_is, height-few, l.growing.lent.room)

    pub tracing-step : get_or S' (n + at) 0 ≡ step_up ws n S r i
    tracing-step =
        earlier (2 * n) (n + at) _ S S' room x.filling.filled (omega (arith, at_in)) ∙ ap (step_to n S) x.at_is

    pub tracing-pair : get_or S' (n + at) 0 / per_pair < m
    tracing-pair =
        let place : get_or S' (n + at) 0 / per_pair < pair_count ws = rw tracing-step (up-child S r l i (omega (arith, x.height_is))).place in
        omega (arith, place, l.growing.lent.list.pairs_are)

    pub tracing-small : get_or S' (n + at) 0 < per_pair * max_pairs
    tracing-small = omega (arith, tracing-pair, l.growing.lent.list.pairs_are, l.growing.lent.list.usable.few)

    pub tracing-turn : {next : ℕ} → next ≡ source_of ws (get_or S' (n + at) 0)
        → Tracing height (set S' (2 * n + i) (get_or S' (n + at) 0)) next (i + 1)
    unfolding ancestor
    tracing-turn e =
        let z : i + 1 ≡ suc i = omega arith in
        record {
          height_is = x.height_is;
          at_is = rw z (e ∙ ap (source_of ws) tracing-step);
          filling =
              filling-turn 1 (λ k. refl) (omega (arith, front, x.height_is, height-few, l.growing.lent.room)) x.filling h (2 * n + i)
              (omega (arith, front))
              (ap (set S' (2 * n + i)) tracing-step ∙ set-put S' (2 * n + i) _ tracing-writes);
        }

  pub tracing-end : {height : ℕ} {S' : List ℕ} {at i : ℕ} → Tracing height S' at i → height ≤ i → Traced ws n r S S' at
  tracing-end {height} {S'} {at} {i} x h =
      let e : i ≡ height_of S r = omega (arith, x.filling.bound, x.height_is) in
      record {
        root = x.at_is ∙ ap (ancestor ws n S r) e;
        stored = rw x.height_is at (filling-end x.filling h);
      }

  -- ---- the path, read again

  module _ {S' : List ℕ} {b : ℕ} (x : Traced ws n r S S' b) where
    traced : Filled (take (2 * n) S ++ path_up ws n S r) S S'
    traced = record {
      room = rw (length-append (take (2 * n) S) (path_up ws n S r))
          (omega (arith, front, path-size (step_up ws n S r) (height_of S r), height-few, l.growing.lent.room));
      is = x.stored;
    }

    pub traced-size : length S' ≡ length S
    traced-size = filled-size traced

    pub traced-rest : drop (scratch_places n (pair_count ws)) S' ≡ drop (scratch_places n (pair_count ws)) S
    traced-rest =
        ext_get_or 0 _ _ (rw (length-drop, length-drop, traced-size) refl)
        (λ i _. get_or-drop (scratch_places n (pair_count ws)) S' i 0
        ∙ (filled-later traced (scratch_places n (pair_count ws) + i)
        (rw (length-append (take (2 * n) S) (path_up ws n S r)) (omega (arith, front, path-size (step_up ws n S r) (height_of S r), height-few)))
        ∙ sym (get_or-drop (scratch_places n (pair_count ws)) S i 0)))

    pub traced-front : (j : ℕ) → j < 2 * n → get_or S' j 0 ≡ get_or S j 0
    traced-front j h = earlier (2 * n) j (path_up ws n S r) S S' room traced h

    traced-at : (j : ℕ) → j < height_of S r → get_or S' (2 * n + j) 0 ≡ step_up ws n S r j
    traced-at j h =
        let size = path-size (step_up ws n S r) (height_of S r) in
        let e : 1 * j + 0 ≡ j = omega arith in
        let past : get_or (take (2 * n) S ++ path_up ws n S r) (length (take (2 * n) S) + j) 0 ≡ get_or (path_up ws n S r) j 0 =
        get_or-append-add (take (2 * n) S) (path_up ws n S r) j 0 in
        ap (λ (y : List ℕ). get_or y (2 * n + j) 0) x.stored
        ∙ (get_or-append (take (2 * n) S ++ path_up ws n S r) _ 0 (2 * n + j)
        (rw (length-append (take (2 * n) S) (path_up ws n S r)) (omega (arith, front, size)))
        ∙ ((rw front at past) ∙ (rw e at (run_at (λ (i : ℕ). step_up ws n S r i ∷ []) 1 (λ k. refl) (height_of S r) j 0 h (omega arith)))))

    -- as a path of its own
    abbrev pub path : List ℕ
    path = take (height_of S r) (drop (2 * n) S')

    pub path-length : length path ≡ height_of S r
    path-length = length-take-le (height_of S r) (drop (2 * n) S') (rw (length-drop, traced-size) (omega (arith, height-few, l.growing.lent.room)))

    path-at : (j : ℕ) → j < height_of S r → get_or path j 0 ≡ step_up ws n S r j
    path-at j h = get_or-take (height_of S r) (drop (2 * n) S') j 0 h ∙ (get_or-drop (2 * n) S' j 0 ∙ traced-at j h)

    pub traced-up : path_in false path ≡ path_up ws n S r
    traced-up = rw path-length (run-same _ _ (height_of S r) (λ i h. ap (λ (y : ℕ). y ∷ []) (path-at i h)))

    pub traced-down : path_in true path ≡ path_down ws n S r
    traced-down = rw path-length (run-same _ _ (height_of S r) (λ i h. ap (λ (y : ℕ). y ∷ []) (path-at (height_of S r - 1 - i) (omega arith))))

-- ---- the answer buffer

-- one step
pub put_one : (now : List ℕ) (at v : ℕ) → at < length now → set now at v ≡ over (take at now ++ (v ∷ [])) now
put_one now at v h =
    let e : length (take at now ++ (v ∷ [])) ≡ at + 1 = length-append (take at now) (v ∷ []) ∙ omega (arith, length-take-le at now (omega arith)) in
    set-put now at v h
    ∙ (sym (append_assoc (take at now) (v ∷ []) (drop (at + 1) now)) ∙ ap (λ (j : ℕ). (take at now ++ (v ∷ [])) ++ drop j now) (sym e))

-- a part of a path, from place `at` on
module _ (f : ℕ → ℕ) (count at : ℕ) (was : List ℕ) (fits : at + count ≤ length was) where
  front-was : length (take at was) ≡ at
  front-was = length-take-le at was (omega arith)

  pub part-start : Filling (take at was) (λ (i : ℕ). f i ∷ []) count was was 0
  part-start = filling-start (filled-self at was (omega arith))

  module _ {now : List ℕ} {i : ℕ} (x : Filling (take at was) (λ (i : ℕ). f i ∷ []) count was now i) (h : i < count) where
    pub part-inside : at + i < length now
    part-inside = omega (arith, filling-size x)

    pub part-turn : {v : ℕ} → v ≡ f i → Filling (take at was) (λ (i : ℕ). f i ∷ []) count was (set now (at + i) v) (i + 1)
    part-turn e =
        filling-turn 1 (λ k. refl) (omega (arith, front-was)) x h (at + i) (omega (arith, front-was))
        (ap (set now (at + i)) e ∙ set-put now (at + i) _ part-inside)

-- the first chain
module _ (ws : List ℕ) (e : ℕ) (was : List ℕ) where
  pub first_one : {now : List ℕ} → (pair_at ws (e / per_pair)).launch ≡ (pair_at ws (e / per_pair)).capture → now ≡ over (e ∷ []) was
      → (1 ≡ length (first_chain ws e)) × (now ≡ over (first_chain ws e) was)
  first_one q h = rw (eq-eqb _ _ q) (refl, h)

  pub first_two : {now after : List ℕ} → ((pair_at ws (e / per_pair)).launch ≡ (pair_at ws (e / per_pair)).capture → ⊥) → now ≡ over (e ∷ []) was
      → after ≡ over (take 1 now ++ ((e + late_early) ∷ [])) now → (2 ≡ length (first_chain ws e)) × (after ≡ over (first_chain ws e) was)
  first_two q h k = rw (ne_eqb _ _ q) (refl, k ∙ over-more (e ∷ []) ((e + late_early) ∷ []) was refl h)

-- the second, after what stands before place `at`
module _ (ws : List ℕ) (k b : ℕ) (down up : List ℕ) (count at : ℕ) (was : List ℕ) (sized : length down ≡ count) (up_sized : length up ≡ count)
    (fits : at ≤ length was) where
  head-size : length (take at was ++ down) ≡ at + count
  head-size = length-append (take at was) down ∙ omega (arith, length-take-le at was fits, sized)

  module _ {a1 a2 : List ℕ} (h1 : a1 ≡ over (take at was ++ down) was)
      (h2 : a2 ≡ over (take (at + count) a1 ++ ((per_pair * k + late_late) ∷ [])) a1) where
    turned : a2 ≡ over ((take at was ++ down) ++ ((per_pair * k + late_late) ∷ [])) was
    turned = h2 ∙ over-more (take at was ++ down) ((per_pair * k + late_late) ∷ []) was head-size h1

    pub second-one : (pair_at ws k).capture ≡ b
        → (count + 1 ≡ length (chain_by ws k b down up)) × (a2 ≡ over (take at was ++ chain_by ws k b down up) was)
    second-one q =
        rw (eq-eqb _ _ q) (
          sym (length-append down ((per_pair * k + late_late) ∷ []) ∙ omega (arith, sized)),
          turned ∙ ap (λ (y : List ℕ). over y was) (append_assoc (take at was) down ((per_pair * k + late_late) ∷ [])),
        )

    turned-size : length ((take at was ++ down) ++ ((per_pair * k + late_late) ∷ [])) ≡ at + count + 1
    turned-size = length-append (take at was ++ down) ((per_pair * k + late_late) ∷ []) ∙ omega (arith, head-size)

    module _ {a3 a4 : List ℕ} (h3 : a3 ≡ over (take (at + count + 1) a2 ++ ((per_pair * k + late_early) ∷ [])) a2)
        (h4 : a4 ≡ over (take (at + count + 2) a3 ++ up) a3) where
      abbrev long : List ℕ
      long = ((take at was ++ down) ++ ((per_pair * k + late_late) ∷ [])) ++ ((per_pair * k + late_early) ∷ [])

      returned : a3 ≡ over long was
      returned = h3 ∙ over-more ((take at was ++ down) ++ ((per_pair * k + late_late) ∷ [])) ((per_pair * k + late_early) ∷ []) was turned-size turned

      long-size : length long ≡ at + count + 2
      long-size = length-append ((take at was ++ down) ++ ((per_pair * k + late_late) ∷ [])) ((per_pair * k + late_early) ∷ []) ∙ omega (arith, turned-size)

      joined : long ++ up ≡ take at was ++ (down ++ ((per_pair * k + late_late) ∷ (per_pair * k + late_early) ∷ up))
      joined =
          append_assoc ((take at was ++ down) ++ ((per_pair * k + late_late) ∷ [])) ((per_pair * k + late_early) ∷ []) up
          ∙ (append_assoc (take at was ++ down) ((per_pair * k + late_late) ∷ []) ((per_pair * k + late_early) ∷ up)
          ∙ append_assoc (take at was) down ((per_pair * k + late_late) ∷ (per_pair * k + late_early) ∷ up))

      pub second-two : ((pair_at ws k).capture ≡ b → ⊥)
          → (2 * count + 2 ≡ length (chain_by ws k b down up)) × (a4 ≡ over (take at was ++ chain_by ws k b down up) was)
      second-two q =
          rw (ne_eqb _ _ q) (
            sym (length-append down ((per_pair * k + late_late) ∷ (per_pair * k + late_early) ∷ up) ∙ omega (arith, sized, up_sized)),
            h4 ∙ (over-more long up was long-size returned ∙ ap (λ (y : List ℕ). over y was) joined),
          )
