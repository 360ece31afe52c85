-- The timings of a split: each is 0 or the offset, so that none is later than the offset.
use mathlib.Core.Bool.{Bool, true, false}
use mathlib.Core.List.{List, [], ◌∷◌}
use mathlib.Core.Logic.{◌⊎◌, inl, inr}
use mathlib.Core.Path.{◌≡◌, refl}
use Prim.Native.Nat.{ℕ, zero, suc, ◌≤◌, zero-le}
use Rattle.timing.specs.Rules.{time, Each}
use Rattle.split_laws.specs.Split.{timings}

pub two-timings : (offset : ℕ) (c : List Bool) → Each (λ a. (a ≡ 0) ⊎ (a ≡ offset)) (timings offset c)
two-timings offset [] = tt
two-timings offset (false ∷ c) = (inl refl, two-timings offset c)
two-timings offset (true ∷ c) = (inr refl, two-timings offset c)

pub timings-below : (most offset : ℕ) (c : List Bool) → offset ≤ most → (r : ℕ) → time (timings offset c) r ≤ most
timings-below most offset [] h r = zero-le
timings-below most offset (false ∷ c) h zero = zero-le
timings-below most offset (true ∷ c) h zero = h
timings-below most offset (b ∷ c) h (suc r) = timings-below most offset c h r
