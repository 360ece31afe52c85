-- What holds of each and of some elements of a list.
use mathlib.Core.List.{List, [], ◌∷◌, ◌++◌}
use mathlib.Core.Logic.{◌⊎◌, inl, inr}
use Prim.Native.Nat.{ℕ}
use Rattle.timing.specs.Rules.{Each}

module _ {A : Type 0} where
  abbrev pub Some : (A → Type 0) → List A → Type 0
  Some P [] = ⊥
  Some P (x ∷ xs) = P x ⊎ Some P xs

  pub each_map : {P Q : A → Type 0} → ((x : A) → P x → Q x) → (xs : List A) → Each P xs → Each Q xs
  each_map f [] h = tt
  each_map f (x ∷ xs) h = (f x h.0, each_map f xs h.1)

  pub each-zip : {P Q R : A → Type 0} → ((x : A) → P x → Q x → R x) → (xs : List A) → Each P xs → Each Q xs → Each R xs
  each-zip f [] h k = tt
  each-zip f (x ∷ xs) h k = (f x h.0 k.0, each-zip f xs h.1 k.1)

  -- what holds of each, and of some, holds of one
  pub pick_some : {P Q R : A → Type 0} {C : Type 0} → ((x : A) → P x → Q x → R x → C) → (xs : List A) → Each P xs
      → Each Q xs → Some R xs → C
  pick_some f [] h k s = elim s [ ]
  pick_some f (x ∷ xs) h k (inl r) = f x h.0 k.0 r
  pick_some f (x ∷ xs) h k (inr m) = pick_some f xs h.1 k.1 m

  -- each is one or the other: some is the one, or each is the other
  pub sift : (P Q : A → Type 0) (xs : List A) → Each (λ x. P x ⊎ Q x) xs → Some P xs ⊎ Each Q xs
  sift P Q [] h = inr tt
  sift P Q (x ∷ xs) h = go h.0 (sift P Q xs h.1)
    where
      go : P x ⊎ Q x → Some P xs ⊎ Each Q xs → Some P (x ∷ xs) ⊎ Each Q (x ∷ xs)
      go (inl p) rest = inl (inl p)
      go (inr q) (inl s) = inl (inr s)
      go (inr q) (inr e) = inr (q, e)

  -- for every number each: each for every number
  pub each_all : (P : ℕ → A → Type 0) (xs : List A) → ((c : ℕ) → Each (P c) xs) → Each (λ x. (c : ℕ) → P c x) xs
  each_all P [] h = tt
  each_all P (x ∷ xs) h = (λ c. (h c).0, each_all P xs (λ c. (h c).1))

module _ {A : Type 0} (P : A → Type 0) where
  -- of each in two lists: of each in the two strung together, and back
  pub each_append : (xs ys : List A) → Each P xs → Each P ys → Each P (xs ++ ys)
  each_append [] ys h k = k
  each_append (x ∷ xs) ys h k = (h.0, each_append xs ys h.1 k)

  pub append-each : (xs ys : List A) → Each P (xs ++ ys) → Each P xs × Each P ys
  append-each [] ys h = (tt, h)
  append-each (x ∷ xs) ys h =
      let rest = append-each xs ys h.1 in
      ((h.0, rest.0), rest.1)
