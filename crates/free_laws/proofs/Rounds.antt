-- Rounds in any order, from all zero: n of them find the least schedule, where there is one.
-- With each round one more register comes to where the least schedule has it; none ever gets past it.
-- So after n rounds that leave a rule broken there is no schedule at all: no walks along rules have to be counted.
use mathlib.Core.Bool.{Bool, true, false}
use mathlib.Core.List.{List, [], ◌∷◌}
use mathlib.Core.Path.{◌≡◌, sym, ◌∙◌}
use Prim.Native.Nat.{ℕ, zero, suc, ◌≤◌, ◌<◌, max, min, zero-le}
use native.Mathlib.Omega.{arith}
use lib.Dec.{leb}
use lib.ListN.{length, length-replicate}
use lib.Seq.{ext_get_or}
use borrow.Author.Tests.{leb-true, leb-false, le-leb}
use Rattle.timing.specs.Rules.{time, Each}
use Rattle.buffers.specs.Over.{zeros}
use Rattle.timing.proofs.EachLaws.{pick_some}
use Rattle.free_laws.specs.Constraint.{Constraint, Meets, Within, Below, Least}
use Rattle.free_laws.specs.Raise.{Attained, Round, Capped}
use Rattle.free_laws.proofs.Sweep.{zeros-below, sweeps}
use Rattle.free_laws.proofs.Count.{count, count-full, grow, grow_first}
use Rattle.free_laws.proofs.Least.{after, after-round, Crosses, cross, some-zero}

-- some cap is never reached
latest : (l : List ℕ) → (c : ℕ) × Capped c l
latest [] = (0, λ r. zero-le)
latest (a ∷ l) = let rest = latest l in (max a rest.0, bound rest)
  where
    bound : (rest : (c : ℕ) × Capped c l) → Capped (max a rest.0) (a ∷ l)
    bound rest zero = omega arith
    bound rest (suc r) = omega (arith, rest.1 r)

-- the registers of x that stand where l has them, or later
pub placed : List ℕ → List ℕ → ℕ → Bool
placed l x r = leb (time l r) (time x r)

-- x after k rounds: below whatever meets the rules, and one more register in its place for each round
pub record Rounds (c n : ℕ) (rs : List Constraint) (x : List ℕ) (k : ℕ) : Type 0 where
  pub size : length x ≡ n
  pub low : (f : ℕ → ℕ) → Each (Meets f) rs → Below x f
  pub far : (l : List ℕ) → Capped c l → Least rs n l → min (suc k) n ≤ count n (placed l x)

module _ (n : ℕ) (rs : List Constraint) (w : Each (Within n) rs) where
  pub rounds-start : (c : ℕ) → Rounds c n rs (zeros n) 0
  unfolding placed
  rounds-start c =
      record {
        size = length-replicate n 0;
        low = λ f m. zeros-below n f;
        far = λ l h least. grow_first n (placed l (zeros n)) (λ b.
            let v = some-zero rs n l w least b in
            (v.0, v.1, le-leb (time l v.0) (time (zeros n) v.0) (omega arith)));
      }

  module _ {c k : ℕ} {x : List ℕ} (s : Rounds c n rs x k) where
    -- While some register of x is not placed, a tight rule of the least schedule leads from a placed register to one that
    -- is not (`cross`). Its source is where the least schedule has it, so it asks of its destination what the least
    -- schedule has there; a round attains that, and one register more is placed.
    pub rounds-turn : {y : List ℕ} → Round c rs x y → Rounds c n rs y (suc k)
    unfolding placed
    rounds-turn {y} o =
        record {
          size = o.size ∙ s.size;
          low = λ f m. o.low f m (s.low f m);
          far = λ l h least. grow n (suc k) (placed l x) (placed l y) (keep l) (gain l h least) (s.far l h least);
        }
      where
        keep : (l : List ℕ) (r : ℕ) → r < n → placed l x r ≡ true → placed l y r ≡ true
        keep l r b e = le-leb (time l r) (time y r) (omega (arith, leb-true (time l r) (time x r) e, o.up r))

        gain : (l : List ℕ) → Capped c l → Least rs n l → (q : ℕ) → q < n → placed l x q ≡ false
            → (p : ℕ) × (p < n) × (placed l x p ≡ false) × (placed l y p ≡ true)
        gain l h least q b e =
            pick_some step rs w o.attained
            (cross rs n l w least (placed l x) (λ r j i. omega (arith, leb-false (time l r) (time x r) i)) q b e)
          where
            step : (r : Constraint) → Within n r → Attained c x y r → Crosses l (placed l x) r
                → (p : ℕ) × (p < n) × (placed l x p ≡ false) × (placed l y p ≡ true)
            step r u v z = (
              r.dst,
              u.1,
              z.1,
              le-leb (time l r.dst) (time y r.dst) (omega (arith, leb-true (time l r.src) (time x r.src) z.0, h r.dst)),
            )

    -- once the rules are met: the least
    pub rounds-least : Each (Meets (time x)) rs → Least rs n x
    rounds-least m = record { size = s.size; meets = m; below = s.low }

    -- n - 1 rounds or more: the least, if there is one, for as many registers are placed as there are
    pub rounds-end : n ≤ suc k → (l : List ℕ) → Capped c l → Least rs n l → x ≡ l
    unfolding placed
    rounds-end b l h least =
        ext_get_or 0 x l (s.size ∙ sym least.size)
        (λ r j. omega (
          arith,
          s.low (time l) least.meets r,
          leb-true (time l r) (time x r) (count-full n (placed l x) (omega (arith, s.far l h least)) r (omega (arith, s.size))),
        ))

  -- rounds in the order of the rules, whatever the cap
  after-rounds : (c k : ℕ) → Rounds c n rs (after rs n k) k
  unfolding sweeps
  after-rounds c zero = rounds-start c
  after-rounds c (suc k) = rounds-turn (after-rounds c k) (after-round rs n w c k)

  pub settled : (k : ℕ) → n ≤ suc k → (l : List ℕ) → Least rs n l → after rs n k ≡ l
  settled k h l = let c = latest l in rounds-end (after-rounds c.0 k) h l c.1
