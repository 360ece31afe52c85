-- Raising a schedule as far as the rules ask, one rule after the other.
-- What a round promises (`Round`): no register gets earlier, none gets past times that meet the rules, and each rule's
-- destination stands at least where the rule asked for it at the start of the round.
use mathlib.Core.List.{List, [], ◌∷◌}
use mathlib.Core.Path.{◌≡◌, refl, ◌∙◌}
use Prim.Native.Nat.{ℕ, zero, suc, ◌≤◌, ◌<◌, max, min, zero-le}
use native.Mathlib.Nat.{le_refl, le_trans}
use native.Mathlib.Omega.{arith}
use lib.ListN.{length, set, length-set}
use lib.Seq.{get_or-set_same}
use Rattle.timing.specs.Rules.{time, Each}
use Rattle.buffers.specs.Over.{zeros}
use Rattle.free_laws.specs.Free.{raise}
use Rattle.timing.proofs.EachLaws.{each_map, each_all}
use Rattle.free_laws.specs.Constraint.{Constraint, Meets, Within, Below}
use Rattle.free_laws.specs.Raise.{ask, Attained, Round}

pub zeros-below : (n : ℕ) (f : ℕ → ℕ) → Below (zeros n) f
zeros-below zero f r = zero-le
zeros-below (suc n) f zero = zero-le
zeros-below (suc n) f (suc r) = zeros-below n (λ q. f (suc q)) r

pub set-up : (x : List ℕ) (i v j : ℕ) → time x i ≤ v → time x j ≤ time (set x i v) j
set-up [] i v j h = zero-le
set-up (a ∷ x) zero v zero h = h
set-up (a ∷ x) zero v (suc j) h = le_refl (time x j)
set-up (a ∷ x) (suc i) v zero h = le_refl a
set-up (a ∷ x) (suc i) v (suc j) h = set-up x i v j h

pub set_below : (x : List ℕ) (i v j : ℕ) (f : ℕ → ℕ) → time x j ≤ f j → v ≤ f i → time (set x i v) j ≤ f j
set_below [] i v j f h k = h
set_below (a ∷ x) zero v zero f h k = k
set_below (a ∷ x) zero v (suc j) f h k = h
set_below (a ∷ x) (suc i) v zero f h k = h
set_below (a ∷ x) (suc i) v (suc j) f h k = set_below x i v j (λ r. f (suc r)) h k

-- ---- one rule

-- what is attained stays so where the destination is raised further, and counted from earlier times
pub attained-more : (c : ℕ) (x x' y y' : List ℕ) (r : Constraint) → Below x (time x') → Below y (time y')
    → Attained c x' y r → Attained c x y' r
attained-more c x x' y y' r a b h = omega (arith, a r.src, b r.dst)

-- y is x with the destination raised, no further than the rule asks
pub record Obeyed (c : ℕ) (r : Constraint) (x y : List ℕ) : Type 0 where
  pub size : length y ≡ length x
  pub up : Below x (time y)
  pub low : (f : ℕ → ℕ) → Meets f r → Below x f → Below y f
  pub attained : Attained c x y r

pub obeyed : (c : ℕ) (r : Constraint) (x : List ℕ) (v : ℕ) → r.dst < length x → time x r.dst ≤ v → v ≤ max (time x r.dst) (ask r x)
    → min c (ask r x) ≤ v → Obeyed c r x (set x r.dst v)
obeyed c r x v h up far near =
    record {
      size = length-set x r.dst v;
      up = λ j. set-up x r.dst v j up;
      low = λ f m b j. set_below x r.dst v j f (b j) (omega (arith, b r.src, b r.dst));
      attained = rw (get_or-set_same x r.dst v 0 h) near;
    }

-- ---- a round

-- the destination raised as far as the rule asks
abbrev pub obey : Constraint → List ℕ → List ℕ
obey r x = raise r.dst (ask r x) x

-- each rule once, in order
unfoldable pub sweep : List Constraint → List ℕ → List ℕ
sweep [] x = x
sweep (r ∷ rs) x = sweep rs (obey r x)

unfoldable pub sweeps : ℕ → List Constraint → List ℕ → List ℕ
sweeps zero rs x = x
sweeps (suc k) rs x = sweep rs (sweeps k rs x)

-- rule by rule: later raises take nothing back, and what a rule asks of raised times is no less than it asked at the start
pub sweep-round : (c n : ℕ) (rs : List Constraint) (x : List ℕ) → Each (Within n) rs → length x ≡ n → Round c rs x (sweep rs x)
unfolding sweep
sweep-round c n [] x w l = record { size = refl; up = λ j. le_refl _; low = λ f m b. b; attained = tt }
sweep-round c n (r ∷ rs) x w l =
    let o = obeyed c r x (max (time x r.dst) (ask r x)) (omega (arith, w.0.1)) (omega arith) (omega arith) (omega arith) in
    let s = sweep-round c n rs (obey r x) w.1 (o.size ∙ l) in
    record {
      size = s.size ∙ o.size;
      up = λ j. le_trans (o.up j) (s.up j);
      low = λ f m b. s.low f m.1 (o.low f m.0 b);
      attained = (
        attained-more c x x (obey r x) (sweep rs (obey r x)) r (λ j. le_refl _) s.up o.attained,
        each_map (λ q. attained-more c x (obey r x) (sweep rs (obey r x)) (sweep rs (obey r x)) q o.up (λ j. le_refl _)) rs s.attained,
      );
    }

-- what a round leaves as it is meets the rules: each rule, with the cap at what it asks for, is attained
pub still-meets : (n : ℕ) (rs : List Constraint) (x : List ℕ) → Each (Within n) rs → length x ≡ n → sweep rs x ≡ x → Each (Meets (time x)) rs
still-meets n rs x w l e =
    each_map (λ r h. omega (arith, h (ask r x))) rs (each_all (λ c. Attained c x x) rs (λ c. rw e at (sweep-round c n rs x w l).attained))
