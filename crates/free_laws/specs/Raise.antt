-- Times raised as far as rules ask, but past no cap.
use Rattle.std.specs.Prelude.{List, ◌≡◌, ℕ, ◌+◌, ◌-◌, ◌≤◌, max, min, length, set}
use Rattle.timing.specs.declared.Pair.{Pair}
use Rattle.timing.specs.Rules.{time, Each}
use Rattle.free_laws.specs.Constraint.{Constraint, Meets, Below}

-- no time is past c
abbrev pub Capped : ℕ → List ℕ → Type 0
Capped c x = Below x (λ r. c)

-- what the rule asks of its destination
abbrev pub ask : Constraint → List ℕ → ℕ
ask r x = time x r.src + r.gain - r.allowance

-- y has the destination as late as the rule asks of x, or at the cap c
abbrev pub Attained : ℕ → List ℕ → List ℕ → Constraint → Type 0
Attained c x y r = min c (ask r x) ≤ time y r.dst

-- register r raised to at least v, and to no more than c
abbrev pub raise_to : ℕ → ℕ → ℕ → List ℕ → List ℕ
raise_to c r v x = set x r (min c (max (time x r) v))

-- the capture register raised as far as setup asks, then the launch register as far as hold asks
unfoldable pub relax_to : ℕ → ℕ → Pair → List ℕ → List ℕ
relax_to c t p x =
    let y : List ℕ = raise_to c p.capture (time x p.launch + p.greatest - t) x in
    raise_to c p.launch (time y p.capture - p.least) y

-- y is x raised, past the cap nowhere, and past no times that meet the rules
pub record Risen (c : ℕ) (rs : List Constraint) (x y : List ℕ) : Type 0 where
  pub size : length y ≡ length x
  pub capped : Capped c y
  pub low : (f : ℕ → ℕ) → Each (Meets f) rs → Below x f → Below y f

-- y is x after a round over the rules, in any order
pub record Round (c : ℕ) (rs : List Constraint) (x y : List ℕ) : Type 0 where
  pub size : length y ≡ length x
  pub up : Below x (time y)
  pub low : (f : ℕ → ℕ) → Each (Meets f) rs → Below x f → Below y f
  pub attained : Each (Attained c x y) rs

-- y is x after a round over the rules that goes past the cap nowhere
pub record RoundTo (c : ℕ) (rs : List Constraint) (x y : List ℕ) : Type 0 where
  pub round : Round c rs x y
  pub capped : Capped c y
