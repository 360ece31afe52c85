-- The path from a late register up to its root: at each step the depth is one less, so it ends at a root, and its steps lead
-- down from the late root to the late register, and up from the early register to the early root.
use mathlib.Core.Path.{◌≡◌}
use mathlib.Core.Logic.{◌⊎◌, inl, inr}
use mathlib.Core.Bool.{true, false}
use mathlib.Core.List.{List, [], ◌∷◌}
use Prim.Native.Nat.{ℕ, zero, suc, ◌+◌, ◌-◌, ◌≤◌, ◌<◌}
use native.Mathlib.Omega.{arith}
use lib.ListN.{drop}
use Rattle.buffers.specs.Run.{run}
use Rattle.list_format.specs.Lists.{pairs}
use Rattle.propagate.specs.Store.{flags_from, Recorded}
use Rattle.chain_laws.specs.Chains.{node, leads}
use Rattle.chain_laws.proofs.ChainLaws.{Step, step_back, leads-none, leads-step, leads-then}
use Rattle.forced_late.specs.Forest.{depth_of, step_to, Root, Child}
use Rattle.forced_late.proofs.ForestLaws.{source_in}
use Rattle.blocking.specs.Paths.{ancestor, step_up, height_of, root_of, path_up, path_down, Late}
use Rattle.blocking.proofs.StepLaws.{child-step}

module _ {ws : List ℕ} {n m : ℕ} (S : List ℕ) (r : ℕ) (l : Late ws n m S r) where
  -- the register i steps up is among the registers, and i less deep
  pub record Up (i : ℕ) : Type 0 where
    pub inside : ancestor ws n S r i < n
    pub depth : depth_of S (ancestor ws n S r i) + i ≡ depth_of S r

  child-of : (i : ℕ) → Up i → i + 1 < depth_of S r → Child ws n S (step_up ws n S r i) (ancestor ws n S r i)
  child-of i u h = go (l.growing.forest.grown (ancestor ws n S r i) u.inside (omega (arith, u.depth)))
    where
      go : Root ws n S (step_up ws n S r i) (ancestor ws n S r i) ⊎ Child ws n S (step_up ws n S r i) (ancestor ws n S r i)
          → Child ws n S (step_up ws n S r i) (ancestor ws n S r i)
      go (inl o) = absurd (omega (arith, u.depth, o.depth))
      go (inr o) = o

  pub up : (i : ℕ) → i < depth_of S r → Up i
  unfolding ancestor
  up zero h = record { inside = l.inside; depth = omega arith }
  up (suc i) h =
      let u = up i (omega arith) in
      let c = child-of i u (omega arith) in
      record { inside = source_in l.growing.lent.list (step_up ws n S r i) c.place; depth = omega (arith, u.depth, c.depth) }

  -- below the root there are children
  pub up-child : (i : ℕ) → i < height_of S r → Child ws n S (step_up ws n S r i) (ancestor ws n S r i)
  up-child i h = child-of i (up i (omega arith)) (omega arith)

  pub up_root : Root ws n S (step_to n S (root_of ws n S r)) (root_of ws n S r)
  up_root = go (l.growing.forest.grown (root_of ws n S r) u.inside (omega (arith, u.depth, l.late)))
    where
      u : Up (height_of S r)
      u = up (height_of S r) (omega (arith, l.late))

      go : Root ws n S (step_to n S (root_of ws n S r)) (root_of ws n S r) ⊎ Child ws n S (step_to n S (root_of ws n S r)) (root_of ws n S r)
          → Root ws n S (step_to n S (root_of ws n S r)) (root_of ws n S r)
      go (inl o) = o
      go (inr o) = absurd (omega (arith, u.depth, o.depth, o.late, l.late))

  -- ---- as chains

  module _ (t s : ℕ) (f : Recorded t s ws (drop (flags_from n) S)) where
    -- step i leads from the register i + 1 steps up to that i steps up
    down_step : (i : ℕ) → i < height_of S r
        → Step t s (pairs ws) (step_up ws n S r i) (node (ancestor ws n S r (i + 1)) true) (node (ancestor ws n S r i) true)
    unfolding ancestor
    down_step i h =
        let z : i + 1 ≡ suc i = omega arith in
        rw z (child-step t s ws n S f (step_up ws n S r i) (ancestor ws n S r i) (up-child i h))

    one : (e x y : ℕ) → Step t s (pairs ws) e x y → leads t s (pairs ws) (e ∷ []) x y ≡ true
    one e x y h = leads-step t s (pairs ws) e x y y [] h (leads-none t s (pairs ws) y)

    up-leads : (j : ℕ) → j ≤ height_of S r
        → leads t s (pairs ws) (run (λ i. step_up ws n S r i ∷ []) j) (node (ancestor ws n S r 0) false) (node (ancestor ws n S r j) false) ≡ true
    unfolding run
    up-leads zero h = leads-none t s (pairs ws) _
    up-leads (suc j) h =
        let z : suc j ≡ j + 1 = omega arith in
        let st = step_back t s (pairs ws) (step_up ws n S r j) (ancestor ws n S r (j + 1)) (ancestor ws n S r j) true true (down_step j (omega arith)) in
        rw z
        (leads-then t s (pairs ws) (run (λ i. step_up ws n S r i ∷ []) j) (step_up ws n S r j ∷ []) _ _ _ (up-leads j (omega arith))
        (one _ _ _ st))

    down-leads : (j : ℕ) → j ≤ height_of S r
        → leads t s (pairs ws) (run (λ i. step_up ws n S r (height_of S r - 1 - i) ∷ []) j)
        (node (root_of ws n S r) true) (node (ancestor ws n S r (height_of S r - j)) true)
        ≡ true
    unfolding run
    down-leads zero h =
        let z : height_of S r - 0 ≡ height_of S r = omega arith in
        rw z (leads-none t s (pairs ws) _)
    down-leads (suc j) h =
        let i : ℕ = height_of S r - 1 - j in
        let above : height_of S r - j ≡ height_of S r - 1 - j + 1 = omega arith in
        let here : height_of S r - suc j ≡ height_of S r - 1 - j = omega arith in
        let before = down-leads j (omega arith) in
        rw here
        (leads-then t s (pairs ws) (run (λ i. step_up ws n S r (height_of S r - 1 - i) ∷ []) j) (step_up ws n S r (height_of S r - 1 - j) ∷ []) _ _ _
        (rw above at before) (one _ _ _ (down_step (height_of S r - 1 - j) (omega arith))))

    pub path-up : leads t s (pairs ws) (path_up ws n S r) (node r false) (node (root_of ws n S r) false) ≡ true
    unfolding ancestor
    path-up = up-leads (height_of S r) (omega arith)

    pub path-down : leads t s (pairs ws) (path_down ws n S r) (node (root_of ws n S r) true) (node r true) ≡ true
    unfolding ancestor
    path-down =
        let z : height_of S r - height_of S r ≡ 0 = omega arith in
        rw z at (down-leads (height_of S r) (omega arith))
