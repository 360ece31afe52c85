-- The two chains of a pair that clashes: they lead where they have to, and no further than they may.
-- The path has no more steps than there are registers deeper than a root. The root that it ends at is one register that is not, and where the
-- capture of the pair is another root, that is a second.
use mathlib.Core.Path.{◌≡◌, refl, ◌∙◌, subst}
use mathlib.Core.Logic.{◌⊎◌, inl, inr}
use mathlib.Core.Bool.{Bool, true, false, cond}
use mathlib.Core.List.{List, [], ◌∷◌, ◌++◌}
use Prim.Native.Nat.{ℕ, ◌+◌, ◌-◌, ◌*◌, ◌/◌, ◌%◌, ◌≤◌, ◌<◌}
use native.Mathlib.Nat.{eq-or-lt_of_le}
use native.Mathlib.Omega.{arith}
use lib.Dec.{eqb}
use lib.ListN.{length, get_or, take, drop, length-append}
use lib.Seq.{get_or-take, length-take-le}
use borrow.Author.Tests.{eqb-true, eqb-false}
use Rattle.timing.specs.Limits.{per_pair}
use Rattle.buffers.specs.Run.{run}
use Rattle.buffers.proofs.RunLaws.{run_length}
use Rattle.list_format.specs.Lists.{pair_count, pair_at, pairs}
use Rattle.split_laws.specs.Choices.{broken_row}
use Rattle.propagate.specs.Store.{flags_from, Recorded}
use Rattle.chain_laws.specs.Chains.{node, leads, ChainSize, Blocks}
use Rattle.chain_laws.proofs.ChainLaws.{Step, leads-none, leads-step, leads-then}
use Rattle.forced_late.specs.Forest.{early_early, late_early, late_late, depth_of, step_to, Root}
use Rattle.forced_late.proofs.ForestLaws.{ends-in, inner-root, inner-roots}
use Rattle.blocking.specs.Paths.{height_of, root_of, path_up, path_down, second_chain, chains_of, Late, Clashing}
use Rattle.blocking.proofs.StepLaws.{recorded-broken, broken-recorded, late-late-early, late-late-first, early-early-late}
use Rattle.blocking.proofs.StepLaws.{by-early-early, by-late-early, back-late-early, by-late-late}
use Rattle.blocking.proofs.PathLaws.{up, up_root, path-up, path-down}

pub path-size : (f : ℕ → ℕ) (d : ℕ) → length (run (λ i. f i ∷ []) d) ≡ d
path-size f d = run_length (λ i. f i ∷ []) 1 (λ i. refl) d ∙ omega arith

-- two registers are more than one
two-registers : (n a b : ℕ) → a < n → b < n → (a ≡ b → ⊥) → 2 ≤ 2 * n - 1
two-registers n a b h l ne = go (eq-or-lt_of_le (omega arith))
  where
    go : (1 ≡ n) ⊎ (1 < n) → 2 ≤ 2 * n - 1
    go (inl q) = absurd (ne (omega arith))
    go (inr q) = omega arith

two_size : (n a b : ℕ) → a < n → b < n → (a ≡ b → ⊥) → ChainSize n 2
two_size n a b h l ne = record { from = omega arith; upto = two-registers n a b h l ne }

module _ (ws : List ℕ) (n m k : ℕ) (answer S : List ℕ) (x : Clashing ws n m k answer S) where
  in_list : k < pair_count ws
  in_list = omega (arith, x.below, x.growing.lent.list.pairs_are)

  -- the launch of the pair
  pub launch-late : Late ws n m S (pair_at ws k).launch
  launch-late = record { growing = x.growing; inside = (ends-in x.growing.lent.list k in_list).0; late = x.clashes.late }

  root : Root ws n S (step_to n S (root_of ws n S (pair_at ws k).launch)) (root_of ws n S (pair_at ws k).launch)
  root = up_root S (pair_at ws k).launch launch-late

  pub root_in : root_of ws n S (pair_at ws k).launch < n
  root_in = (up S (pair_at ws k).launch launch-late (height_of S (pair_at ws k).launch) (omega (arith, x.clashes.late))).inside

  -- ---- how long the path is

  front : length (take n S) ≡ n
  front = length-take-le n S (omega (arith, x.growing.lent.room))

  front_at : (r : ℕ) → r < n → depth_of S r ≡ 1 → get_or (take n S) r 0 ≡ 1
  front_at r h e = get_or-take n S r 0 h ∙ e

  pub height-one : height_of S (pair_at ws k).launch + 1 ≤ n
  height-one =
      omega (
        arith,
        x.growing.forest.deep (pair_at ws k).launch launch-late.inside,
        inner-root (take n S) (root_of ws n S (pair_at ws k).launch) (omega (arith, front, root_in)) (front_at _ root_in root.depth),
        front,
      )

  module _ (t s : ℕ) (f : Recorded t s ws (drop (flags_from n) S)) where
    -- ---- the steps of pair k

    index : (j : ℕ) → j < per_pair → (per_pair * k + j) / per_pair ≡ k
    index j h = omega arith

    row : (j : ℕ) → j < per_pair → (per_pair * k + j) % per_pair ≡ j
    row j h = omega arith

    late-late-broken : broken_row t s (pair_at ws k) late_late ≡ true
    late-late-broken =
        rw (index late_late (omega arith), row late_late (omega arith)) at
        (recorded-broken t s ws n S f (per_pair * k + late_late) (omega (arith, in_list)) x.clashes.breaks)

    -- its capture is a root
    capture-root : depth_of S (pair_at ws k).capture ≡ 1
    capture-root =
        x.seeded k in_list
        (broken-recorded t s ws n S f (per_pair * k + early_early) (omega (arith, in_list))
        (rw (index early_early (omega arith), row early_early (omega arith)) (late-late-first t s (pair_at ws k) late-late-broken)))

    height-two : ((pair_at ws k).capture ≡ root_of ws n S (pair_at ws k).launch → ⊥) → height_of S (pair_at ws k).launch + 2 ≤ n
    height-two ne =
        let inside = (ends-in x.growing.lent.list k in_list).1 in
        omega (
          arith,
          x.growing.forest.deep (pair_at ws k).launch launch-late.inside,
          inner-roots (take n S) (pair_at ws k).capture (root_of ws n S (pair_at ws k).launch) (omega (arith, front, inside)) (omega (arith, front, root_in)) ne
              (front_at _ inside capture-root) (front_at _ root_in root.depth),
          front,
        )

    turn : Step t s (pairs ws) (per_pair * k + late_late) (node (pair_at ws k).launch true) (node (pair_at ws k).capture false)
    turn =
        let i = index late_late (omega arith) in
        let j = row late_late (omega arith) in
        rw i at
        (by-late-late t s ws (per_pair * k + late_late) (omega (arith, in_list)) (rw (i, j) late-late-broken) j)

    return : Step t s (pairs ws) (per_pair * k + late_early) (node (pair_at ws k).capture false) (node (pair_at ws k).launch false)
    return =
        let i = index late_early (omega arith) in
        let j = row late_early (omega arith) in
        rw i at
        (back-late-early t s ws (per_pair * k + late_early) (omega (arith, in_list)) (rw (i, j) (late-late-early t s (pair_at ws k) late-late-broken)) j)

    -- ---- the second chain

    abbrev tail : Bool → List ℕ
    tail d = cond d [] ((per_pair * k + late_early) ∷ path_up ws n S (pair_at ws k).launch)

    tail-leads : (d : Bool) → eqb (pair_at ws k).capture (root_of ws n S (pair_at ws k).launch) ≡ d
        → leads t s (pairs ws) (tail d) (node (pair_at ws k).capture false) (node (root_of ws n S (pair_at ws k).launch) false) ≡ true
    tail-leads true e =
        let q : (pair_at ws k).capture ≡ root_of ws n S (pair_at ws k).launch = eqb-true _ _ e in
        subst (λ (z : ℕ). leads t s (pairs ws) [] (node (pair_at ws k).capture false) (node z false) ≡ true) q (leads-none t s (pairs ws) _)
    tail-leads false e = leads-step t s (pairs ws) _ _ _ _ _ return (path-up S (pair_at ws k).launch launch-late t s f)

    second-leads : leads t s (pairs ws) (second_chain ws n S k)
        (node (root_of ws n S (pair_at ws k).launch) true) (node (root_of ws n S (pair_at ws k).launch) false)
        ≡ true
    second-leads =
        leads-then t s (pairs ws) (path_down ws n S (pair_at ws k).launch) _ _ (node (pair_at ws k).launch true) _
        (path-down S (pair_at ws k).launch launch-late t s f)
        (leads-step t s (pairs ws) _ _ _ _ _ turn (tail-leads (eqb (pair_at ws k).capture (root_of ws n S (pair_at ws k).launch)) refl))

    down-size : length (path_down ws n S (pair_at ws k).launch) ≡ height_of S (pair_at ws k).launch
    down-size = path-size _ (height_of S (pair_at ws k).launch)

    up-size : length (path_up ws n S (pair_at ws k).launch) ≡ height_of S (pair_at ws k).launch
    up-size = path-size _ (height_of S (pair_at ws k).launch)

    second-size : (d : Bool) → eqb (pair_at ws k).capture (root_of ws n S (pair_at ws k).launch) ≡ d
        → ChainSize n (length (path_down ws n S (pair_at ws k).launch ++ ((per_pair * k + late_late) ∷ tail d)))
    second-size true e =
        let z = length-append (path_down ws n S (pair_at ws k).launch) ((per_pair * k + late_late) ∷ []) in
        record { from = omega (arith, z); upto = omega (arith, z, down-size, height-one) }
    second-size false e =
        let z =
        length-append (path_down ws n S (pair_at ws k).launch)
        ((per_pair * k + late_late) ∷ (per_pair * k + late_early) ∷ path_up ws n S (pair_at ws k).launch) in
        record { from = omega (arith, z); upto = omega (arith, z, down-size, up-size, height-two (eqb-false _ _ e)) }

    -- ---- the first chain

    module _ (e : ℕ) (o : Root ws n S e (root_of ws n S (pair_at ws k).launch)) where
      same-pair : (e + late_early) / per_pair ≡ e / per_pair
      same-pair = omega (arith, o.row)

      same_row : (e + late_early) % per_pair ≡ late_early
      same_row = omega (arith, o.row)

      early-broken : broken_row t s (pair_at ws (e / per_pair)) early_early ≡ true
      early-broken = rw o.row at (recorded-broken t s ws n S f e o.place o.breaks)

      start : Step t s (pairs ws) e (node (root_of ws n S (pair_at ws k).launch) false) (node (pair_at ws (e / per_pair)).launch true)
      start = rw o.capture at (by-early-early t s ws e o.place (rw o.row early-broken) o.row)

      finish : Step t s (pairs ws) (e + late_early) (node (pair_at ws (e / per_pair)).launch true) (node (root_of ws n S (pair_at ws k).launch) true)
      finish =
          rw (same-pair, o.capture) at
          (by-late-early t s ws (e + late_early) (rw same-pair o.place)
          (rw (same-pair, same_row) (early-early-late t s (pair_at ws (e / per_pair)) early-broken)) same_row)

      first-leads : (d : Bool) → eqb (pair_at ws (e / per_pair)).launch (pair_at ws (e / per_pair)).capture ≡ d
          → leads t s (pairs ws) (cond d (e ∷ []) (e ∷ (e + late_early) ∷ []))
          (node (root_of ws n S (pair_at ws k).launch) false) (node (root_of ws n S (pair_at ws k).launch) true)
          ≡ true
      first-leads true q =
          let z : (pair_at ws (e / per_pair)).launch ≡ root_of ws n S (pair_at ws k).launch = eqb-true _ _ q ∙ o.capture in
          leads-step t s (pairs ws) _ _ _ _ _ (rw z at start) (leads-none t s (pairs ws) _)
      first-leads false q = leads-step t s (pairs ws) _ _ _ _ _ start (leads-step t s (pairs ws) _ _ _ _ _ finish (leads-none t s (pairs ws) _))

      first-size : (d : Bool) → eqb (pair_at ws (e / per_pair)).launch (pair_at ws (e / per_pair)).capture ≡ d
          → ChainSize n (length {A = ℕ} (cond d (e ∷ []) (e ∷ (e + late_early) ∷ [])))
      first-size true q = record { from = omega arith; upto = omega (arith, root_in) }
      first-size false q =
          two_size n _ _ (ends-in x.growing.lent.list (e / per_pair) o.place).0 (ends-in x.growing.lent.list (e / per_pair) o.place).1
          (eqb-false _ _ q)

    -- ---- both

    pub chains-block : Blocks n t s (pairs ws) (chains_of ws n S k)
    chains-block =
        record {
          register = root_in;
          first = first-leads (step_to n S (root_of ws n S (pair_at ws k).launch)) root _ refl;
          second = second-leads;
          first_size = first-size (step_to n S (root_of ws n S (pair_at ws k).launch)) root _ refl;
          second_size = second-size _ refl;
        }
