-- A register more in the forest: it had no depth, so no other register came from it, and all that was there stays.
use mathlib.Core.Path.{◌≡◌, refl, sym, ap, ◌∙◌}
use mathlib.Core.Logic.{◌⊎◌, inl, inr}
use mathlib.Core.Bool.{Bool, true, false, cond}
use mathlib.Core.List.{List, [], ◌∷◌}
use Prim.Native.Nat.{ℕ, zero, suc, ◌+◌, ◌*◌, ◌/◌, ◌%◌, ◌≤◌, ◌<◌}
use native.Mathlib.Decide.{ℕ_discrete}
use native.Mathlib.Omega.{arith}
use lib.Dec.{eqb}
use lib.ListN.{length, get_or, take, drop, set, length-set}
use lib.Seq.{get_or-set_same, get_or-set_other, take-set-le, take-set-lt, drop-set-lt, get_or-drop, get_or-take, length-take-le}
use Rattle.timing.specs.Limits.{per_register, per_pair}
use Rattle.list_format.specs.Lists.{pair_count, pair_at, UsableList}
use Rattle.split_laws.specs.Marks.{unset}
use Rattle.split_laws.proofs.MarkLaws.{unset_set}
use Rattle.forced_late.specs.Forest.{depth_of, step_to, is_inner, inner, late_early, source_of, Root, Child, Forest, put_at}

-- ---- a mark more

inner-set : (M : List ℕ) (r d : ℕ) → r < length M → get_or M r 0 ≡ 0 → inner (set M r d) ≡ is_inner d + inner M
inner-set [] r d h e = absurd (omega arith)
inner-set (x ∷ M) zero d h e = rw e (omega arith)
inner-set (x ∷ M) (suc r) d h e = omega (arith, inner-set M r d (omega arith) e)

-- no more registers are deeper than a root than there are
inner-one : (x : ℕ) → is_inner x ≤ 1
inner-one zero = omega arith
inner-one (suc zero) = omega arith
inner-one (suc (suc x)) = omega arith

pub inner-most : (M : List ℕ) → inner M ≤ length M
inner-most [] = omega arith
inner-most (x ∷ M) = omega (arith, inner-one x, inner-most M)

-- and fewer where there is a root, or where there are two
pub inner-root : (M : List ℕ) (a : ℕ) → a < length M → get_or M a 0 ≡ 1 → inner M + 1 ≤ length M
inner-root [] a h e = absurd (omega arith)
inner-root (x ∷ M) zero h e = rw e (omega (arith, inner-most M))
inner-root (x ∷ M) (suc a) h e = omega (arith, inner-one x, inner-root M a (omega arith) e)

pub inner-roots : (M : List ℕ) (a b : ℕ) → a < length M → b < length M → (a ≡ b → ⊥) → get_or M a 0 ≡ 1 → get_or M b 0 ≡ 1
    → inner M + 2 ≤ length M
inner-roots [] a b h k ne ea eb = absurd (omega arith)
inner-roots (x ∷ M) zero zero h k ne ea eb = absurd (ne refl)
inner-roots (x ∷ M) zero (suc b) h k ne ea eb = rw ea (omega (arith, inner-root M b (omega arith) eb))
inner-roots (x ∷ M) (suc a) zero h k ne ea eb = rw eb (omega (arith, inner-root M a (omega arith) ea))
inner-roots (x ∷ M) (suc a) (suc b) h k ne ea eb =
    omega (arith, inner-one x, inner-roots M a b (omega arith) (omega arith) (λ z. ne (ap suc z)) ea eb)

-- what lies from place 2n on is the same, so the same choices are broken
pub still-broken : (n : ℕ) (S S' : List ℕ) → drop (2 * n) S' ≡ drop (2 * n) S → (e : ℕ)
    → get_or S' (per_register * n + e) 0 ≡ get_or S (per_register * n + e) 0
still-broken n S S' h e =
    let z : per_register * n + e ≡ 2 * n + (4 * n + e) = omega arith in
    rw z (sym (get_or-drop (2 * n) S' (4 * n + e) 0) ∙ ap (λ (l : List ℕ). get_or l (4 * n + e) 0) h ∙ get_or-drop (2 * n) S (4 * n + e) 0)

-- both ends of every pair are among the n registers
pub ends-in : {ws : List ℕ} {n m : ℕ} → UsableList ws n m → (k : ℕ) → k < pair_count ws → ((pair_at ws k).launch < n) × ((pair_at ws k).capture < n)
ends-in l k h =
    let v = l.usable.values k h in
    (omega (arith, v.launch, l.registers_are), omega (arith, v.capture, l.registers_are))

pub source_in : {ws : List ℕ} {n m : ℕ} → UsableList ws n m → (e : ℕ) → e / per_pair < pair_count ws → source_of ws e < n
source_in {ws} {n} l e h = go (eqb (e % per_pair) late_early)
  where
    go : (b : Bool) → cond b (pair_at ws (e / per_pair)).launch (pair_at ws (e / per_pair)).capture < n
    go true = (ends-in l (e / per_pair) h).0
    go false = (ends-in l (e / per_pair) h).1

module _ (n : ℕ) (S : List ℕ) (r d e : ℕ) (below : r < n) (room : 2 * n ≤ length S) (empty : depth_of S r ≡ 0) where
  abbrev after : List ℕ
  after = put_at n r d e S

  pub put-size : length after ≡ length S
  put-size = length-set (set S r d) (n + r) e ∙ length-set S r d

  pub put_rest : drop (2 * n) after ≡ drop (2 * n) S
  put_rest = drop-set-lt (2 * n) (set S r d) (n + r) e (omega arith) ∙ drop-set-lt (2 * n) S r d (omega arith)

  put_front : take n after ≡ set (take n S) r d
  put_front = take-set-le n (set S r d) (n + r) e (omega arith) ∙ take-set-lt n S r d below

  front-size : length (take n S) ≡ n
  front-size = length-take-le n S (omega arith)

  front-empty : get_or (take n S) r 0 ≡ 0
  front-empty = get_or-take n S r 0 below ∙ empty

  pub put-inner : inner (take n after) ≡ is_inner d + inner (take n S)
  put-inner = ap inner put_front ∙ inner-set (take n S) r d (omega (arith, front-size)) front-empty

  pub put-fewer : 1 ≤ d → unset (take n after) < unset (take n S)
  put-fewer h = rw put_front (unset_set (take n S) r d (omega (arith, front-size)) front-empty (λ z. omega arith))

  pub put-depth : depth_of after r ≡ d
  put-depth = get_or-set_other (set S r d) (n + r) r e 0 (λ z. omega arith) ∙ get_or-set_same S r d 0 (omega arith)

  pub put-depth-other : (q : ℕ) → q < n → (q ≡ r → ⊥) → depth_of after q ≡ depth_of S q
  put-depth-other q h ne = get_or-set_other (set S r d) (n + r) q e 0 (λ z. omega arith) ∙ get_or-set_other S r q d 0 ne

  put_step : step_to n after r ≡ e
  put_step = get_or-set_same (set S r d) (n + r) e 0 (rw (length-set S r d) (omega arith))

  put-step-other : (q : ℕ) → (q ≡ r → ⊥) → step_to n after q ≡ step_to n S q
  put-step-other q ne = get_or-set_other (set S r d) (n + r) (n + q) e 0 (λ z. ne (omega arith)) ∙ get_or-set_other S r (n + q) d 0 (λ z. omega arith)

  -- a register with a depth keeps it
  pub put-kept : (q : ℕ) → q < n → 1 ≤ depth_of S q → depth_of after q ≡ depth_of S q
  put-kept q h l = put-depth-other q h (λ z. omega (arith, ap (depth_of S) z))

  module _ {ws : List ℕ} {m : ℕ} (list : UsableList ws n m) (f : Forest ws n S) where
    root_kept : (x q : ℕ) → q < n → Root ws n S x q → Root ws n after x q
    root_kept x q h o = record {
      row = o.row;
      place = o.place;
      breaks = still-broken n S after put_rest x ∙ o.breaks;
      capture = o.capture;
      depth = put-kept q h (omega (arith, o.depth)) ∙ o.depth;
    }

    child-kept : (x q : ℕ) → q < n → Child ws n S x q → Child ws n after x q
    child-kept x q h o =
        let same : depth_of after (source_of ws x) ≡ depth_of S (source_of ws x) = put-kept (source_of ws x) (source_in list x o.place) o.late in
        record {
          row = o.row;
          place = o.place;
          breaks = still-broken n S after put_rest x ∙ o.breaks;
          target = o.target;
          late = omega (arith, same, o.late);
          depth = put-kept q h (omega (arith, o.depth)) ∙ (o.depth ∙ ap (λ (y : ℕ). y + 1) (sym same));
        }

    -- the forest with r as one register more
    pub forest-put : Root ws n after e r ⊎ Child ws n after e r → d ≤ 1 + inner (take n after) → Forest ws n after
    forest-put new limit = record { grown = grown; deep = deep }
      where
        kept : (q : ℕ) → q < n → Root ws n S (step_to n S q) q ⊎ Child ws n S (step_to n S q) q
            → Root ws n after (step_to n S q) q ⊎ Child ws n after (step_to n S q) q
        kept q h (inl o) = inl (root_kept (step_to n S q) q h o)
        kept q h (inr o) = inr (child-kept (step_to n S q) q h o)

        grown : (q : ℕ) → q < n → 1 ≤ depth_of after q → Root ws n after (step_to n after q) q ⊎ Child ws n after (step_to n after q) q
        grown q h l = go (ℕ_discrete q r)
          where
            go : Dec (q ≡ r) → Root ws n after (step_to n after q) q ⊎ Child ws n after (step_to n after q) q
            go (yes z) = rw (z, put_step) new
            go (no z) = rw (put-step-other q z) (kept q h (f.grown q h (omega (arith, put-depth-other q h z))))

        deep : (q : ℕ) → q < n → depth_of after q ≤ 1 + inner (take n after)
        deep q h = go (ℕ_discrete q r)
          where
            go : Dec (q ≡ r) → depth_of after q ≤ 1 + inner (take n after)
            go (yes z) = rw (z, put-depth) limit
            go (no z) = omega (arith, put-depth-other q h z, f.deep q h, put-inner)
