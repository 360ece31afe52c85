-- The two chains of a pair that clashes, as they are stored: what each routine asks for, and what they come to together.
use mathlib.Core.Path.{◌≡◌, refl, sym, ap, ◌∙◌}
use mathlib.Core.Bool.{Bool, true, false, cond}
use mathlib.Core.List.{List, [], ◌∷◌, ◌++◌}
use Prim.Native.Nat.{ℕ, ◌+◌, ◌*◌, ◌/◌, ◌%◌, ◌≤◌, ◌<◌}
use native.Mathlib.Omega.{arith}
use lib.Dec.{eqb}
use lib.ListN.{length, get_or, take, drop, length-append, length-drop}
use Rattle.timing.specs.Limits.{per_pair, max_registers, max_pairs}
use Rattle.buffers.specs.Over.{over}
use Rattle.buffers.proofs.FillLaws.{over-more}
use Rattle.list_format.specs.Lists.{pair_at}
use Rattle.list_format.proofs.ListLaws.{few-registers}
use Rattle.forced_late.specs.Forest.{early_early, late_early, depth_of, step_to, Root}
use Rattle.forced_late.proofs.GrowLaws.{depth-few}
use Rattle.blocking.specs.Paths.{height_of, root_of, first_chain, chains_of, Late, Traced, chain_in, Clashing}
use Rattle.blocking.specs.Blocking.{blocked_by, ChainsIn}
use Rattle.blocking.proofs.PathLaws.{up_root}
use Rattle.blocking.proofs.ChainsLaws.{launch-late, root_in, height-one}
use Rattle.blocking.proofs.StoreLaws.{traced-size, traced-rest, traced-front, path, path-length, traced-up, traced-down}

module _ {ws : List ℕ} {n m k : ℕ} {answer S : List ℕ} (x : Clashing ws n m k answer S) where
  late : Late ws n m S (pair_at ws k).launch
  late = launch-late ws n m k answer S x

  few : n ≤ max_registers
  few = few-registers ws x.growing.lent.list

  pub launch-in : (pair_at ws k).launch < n
  launch-in = late.inside

  pub launch-few : depth_of S (pair_at ws k).launch ≤ 1 + max_registers
  launch-few = depth-few ws n S x.growing (pair_at ws k).launch launch-in

  module _ {S' : List ℕ} {b : ℕ} (t : Traced ws n (pair_at ws k).launch S S' b) where
    pub root_below : b < n
    root_below = rw t.root (root_in ws n m k answer S x)

    pub root-few : n + b ≤ 2 * max_registers
    root-few = omega (arith, root_below, few)

    same_step : get_or S' (n + b) 0 ≡ step_to n S (root_of ws n S (pair_at ws k).launch)
    same_step = traced-front ws n m (pair_at ws k).launch S late t (n + b) (omega (arith, root_below)) ∙ ap (step_to n S) t.root

    pub root-reads : n + b < length S'
    root-reads = omega (arith, root_below, x.growing.lent.room, traced-size ws n m (pair_at ws k).launch S late t)

    root : Root ws n S (get_or S' (n + b) 0) (root_of ws n S (pair_at ws k).launch)
    root = rw same_step (up_root S (pair_at ws k).launch late)

    pub first-asks : (get_or S' (n + b) 0 / per_pair < m) × (get_or S' (n + b) 0 % per_pair ≡ early_early) × (2 ≤ length answer)
    first-asks = (
      omega (arith, root.place, x.growing.lent.list.pairs_are),
      root.row,
      omega (arith, x.room, root_below),
    )

    pub step_small : get_or S' (n + b) 0 < per_pair * max_pairs
    step_small = omega (arith, root.place, x.growing.lent.list.usable.few)

    first-few : (d : Bool) (e : ℕ) → length {A = ℕ} (cond d (e ∷ []) (e ∷ (e + late_early) ∷ [])) ≤ 2
    first-few true e = omega arith
    first-few false e = omega arith

    pub first_short : {first : ℕ} → first ≡ length (first_chain ws (get_or S' (n + b) 0)) → first ≤ 2
    first_short ef =
        rw ef (first-few (eqb (pair_at ws (get_or S' (n + b) 0 / per_pair)).launch (pair_at ws (get_or S' (n + b) 0 / per_pair)).capture) (get_or S' (n + b) 0))

    module _ {count : ℕ} (ec : count ≡ height_of S (pair_at ws k).launch) {first : ℕ} {a1 : List ℕ}
        (ef : first ≡ length (first_chain ws (get_or S' (n + b) 0))) (h1 : a1 ≡ over (first_chain ws (get_or S' (n + b) 0)) answer) where
      pub height-short : count + 1 ≤ n
      height-short = omega (arith, ec, height-one ws n m k answer S x)

      a1-size : length a1 ≡ length answer
      a1-size =
          ap length h1
          ∙ (length-append (first_chain ws (get_or S' (n + b) 0)) (drop (length (first_chain ws (get_or S' (n + b) 0))) answer)
          ∙ (ap (λ (j : ℕ). length (first_chain ws (get_or S' (n + b) 0)) + j) (length-drop (length (first_chain ws (get_or S' (n + b) 0))) answer)
          ∙ omega (arith, ef, first_short ef, x.room, root_below)))

      -- the path that the steps make in the scratch
      abbrev pub steps : List ℕ
      steps = take count (drop (2 * n) S')

      steps-are : steps ≡ path ws n m (pair_at ws k).launch S late t
      steps-are = rw ec refl

      pub steps-length : length steps ≡ count
      steps-length = ap length steps-are ∙ (path-length ws n m (pair_at ws k).launch S late t ∙ sym ec)

      pub steps-inside : 2 * n + count ≤ length S'
      steps-inside = omega (arith, height-short, x.growing.lent.room, traced-size ws n m (pair_at ws k).launch S late t)

      pub second-asks : (at : ℕ) → at ≤ 2 → (k < m) × (length steps ≤ max_registers) × (at + 2 * length steps + 2 ≤ length a1)
      second-asks at h = (
        omega (arith, x.below, x.growing.lent.list.pairs_are),
        omega (arith, steps-length, height-short, few),
        omega (arith, steps-length, height-short, a1-size, x.room),
      )

      module _ {second : ℕ} {a2 : List ℕ} (es : second ≡ length (chain_in ws k b steps))
          (h2 : a2 ≡ over (take first a1 ++ chain_in ws k b steps) a1) where
        same_first : first_chain ws (get_or S' (n + b) 0) ≡ (chains_of ws n S k).first
        same_first = ap (first_chain ws) same_step

        same_second : chain_in ws k b steps ≡ (chains_of ws n S k).second
        same_second =
            rw (steps-are, traced-down ws n m (pair_at ws k).launch S late t, traced-up ws n m (pair_at ws k).launch S late t, t.root)

        pub chains-in : ChainsIn ws n k answer a2 S S' (blocked_by b first second)
        chains-in = record {
          told = rw (ef, es, same_first, same_second, t.root);
          stored =
              h2
              ∙ (over-more (first_chain ws (get_or S' (n + b) 0)) (chain_in ws k b steps) answer (sym ef) h1
              ∙ rw (same_first, same_second));
          size = traced-size ws n m (pair_at ws k).launch S late t;
          rest = traced-rest ws n m (pair_at ws k).launch S late t;
        }
