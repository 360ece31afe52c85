-- Rival schedules: fractional times, each over a number of its own, and times below 0.
use Rattle.std.specs.Prelude.{List, ℕ, ◌+◌, ◌*◌, ◌≤◌, ◌<◌, get_or}
use Rattle.timing.specs.declared.Pair.{Pair}
use Rattle.timing.specs.Rules.{Each}

-- the time (over - under) / den
pub record Frac : Type 0 where
  pub over : ℕ
  pub under : ℕ
  pub den : ℕ

-- every time is over a number above 0
abbrev pub Proper : List Frac → Type 0
Proper = Each (λ f. 0 < f.den)

-- the time of register r
abbrev pub frac_at : List Frac → ℕ → Frac
frac_at s r = get_or s r (record { over = 0; under = 0; den = 1 })

-- a + gain ≤ b + allowance, multiplied by both denominators
abbrev pub AtMost : Frac → ℕ → Frac → ℕ → Type 0
AtMost a gain b allowance =
    a.over * b.den + b.under * a.den + gain * (a.den * b.den) ≤ b.over * a.den + a.under * b.den + allowance * (a.den * b.den)

-- both rules at period t, with launch time a and capture time b
pub record MeetsFrac (t : ℕ) (a b : Frac) (p : Pair) : Type 0 where
  pub setup : AtMost a p.greatest b t
  pub hold : AtMost b 0 a p.least

-- each pair meets both rules
abbrev pub RivalAdmissible : ℕ → List Pair → List Frac → Type 0
RivalAdmissible t ps s = Each (λ p. MeetsFrac t (frac_at s p.launch) (frac_at s p.capture) p) ps
