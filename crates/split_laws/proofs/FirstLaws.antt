-- The first split: one that works, and is late only where every working split is late, is the first.
use mathlib.Core.Path.{◌≡◌, refl, ap, ◌∙◌}
use mathlib.Core.Bool.{Bool, true, false, false≢true}
use mathlib.Core.List.{List, [], ◌∷◌, ◌++◌, map}
use Prim.Native.Nat.{ℕ, zero, suc}
use lib.ListN.{length, get_or}
use Rattle.split_laws.specs.Split.{Found, nothing, found, splits, or_else, first_of}

-- c is late only where d is
abbrev pub NoLater : List Bool → List Bool → Type 0
NoLater c d = (i : ℕ) → get_or c i false ≡ true → get_or d i false ≡ true

-- what the first of two runs finds, else what the second does
abbrev or : Found → Found → Found
or nothing g = g
or (found c) g = found c

-- one choice more in front
abbrev push : Bool → Found → Found
push b nothing = nothing
push b (found c) = found (b ∷ c)

or_else-or : (t : Bool) (c : List Bool) (f g : Found) → or_else t c (or f g) ≡ or (or_else t c f) g
or_else-or true c f g = refl
or_else-or false c f g = refl

or_else-push : (t b : Bool) (c : List Bool) (f : Found) → or_else t (b ∷ c) (push b f) ≡ push b (or_else t c f)
or_else-push true b c f = refl
or_else-push false b c f = refl

first-append : (f : List Bool → Bool) (l r : List (List Bool)) → first_of f (l ++ r) ≡ or (first_of f l) (first_of f r)
unfolding first_of
first-append f [] r = refl
first-append f (c ∷ l) r = ap (or_else (f c) c) (first-append f l r) ∙ or_else-or (f c) c (first_of f l) (first_of f r)

first-map : (f : List Bool → Bool) (b : Bool) (l : List (List Bool))
    → first_of f (map (λ (c : List Bool). b ∷ c) l) ≡ push b (first_of (λ (c : List Bool). f (b ∷ c)) l)
unfolding first_of
first-map f b [] = refl
first-map f b (c ∷ l) = ap (or_else (f (b ∷ c)) (b ∷ c)) (first-map f b l) ∙ or_else-push (f (b ∷ c)) b c (first_of (λ (c : List Bool). f (b ∷ c)) l)

-- the splits with register 0 early come first
first-splits : (f : List Bool → Bool) (n : ℕ) →
    first_of f (splits (suc n))
    ≡ or (push false (first_of (λ (c : List Bool). f (false ∷ c)) (splits n))) (push true (first_of (λ (c : List Bool). f (true ∷ c)) (splits n)))
unfolding splits
first-splits f n =
    first-append f (map (λ (c : List Bool). false ∷ c) (splits n)) (map (λ (c : List Bool). true ∷ c) (splits n))
    ∙ rw (first-map f false (splits n), first-map f true (splits n))

-- no split of n registers passes
pub none_first : (n : ℕ) (f : List Bool → Bool) → ((c : List Bool) → length c ≡ n → f c ≡ true → ⊥) → first_of f (splits n) ≡ nothing
unfolding splits first_of
none_first zero f h = go (f []) refl
  where
    go : (t : Bool) → f [] ≡ t → or_else t [] nothing ≡ nothing
    go true e = absurd (h [] refl e)
    go false e = refl
none_first (suc n) f h =
    first-splits f n
    ∙ rw (
      none_first n (λ (c : List Bool). f (false ∷ c)) (λ c l e. h (false ∷ c) (ap suc l) e),
      none_first n (λ (c : List Bool). f (true ∷ c)) (λ c l e. h (true ∷ c) (ap suc l) e),
    )

-- c passes, and each split that passes is late where c is: then c is the first that passes. Register by register: where c
-- is early, the splits that are early there come first, and the rest of c is first among their rests; where c is late,
-- none that is early there passes, and the rest of c is first among the rests of those that are late.
pub least_first : (c : List Bool) (f : List Bool → Bool) → f c ≡ true → ((d : List Bool) → length d ≡ length c → f d ≡ true → NoLater c d)
    → first_of f (splits (length c)) ≡ found c
unfolding splits first_of
least_first [] f e h = ap (λ (t : Bool). or_else t [] nothing) e
least_first (false ∷ c) f e h =
    first-splits f (length c)
    ∙ rw (least_first c (λ (d : List Bool). f (false ∷ d)) e (λ d l g i. h (false ∷ d) (ap suc l) g (suc i)))
least_first (true ∷ c) f e h =
    first-splits f (length c)
    ∙ rw (
      none_first (length c) (λ (d : List Bool). f (false ∷ d)) (λ d l g. false≢true (h (false ∷ d) (ap suc l) g zero refl)),
      least_first c (λ (d : List Bool). f (true ∷ d)) e (λ d l g i. h (true ∷ d) (ap suc l) g (suc i)),
    )
