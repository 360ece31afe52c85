-- A first split is found just where some split works: the run of all splits holds every split of n registers, and nothing else.
use mathlib.Core.Bool.{Bool, true, false, false≢true}
use mathlib.Core.List.{List, [], ◌∷◌, map}
use mathlib.Core.Path.{◌≡◌, refl, ap, sym, ◌∙◌}
use Prim.Native.Nat.{ℕ, zero, suc}
use native.Mathlib.Nat.{suc_inj}
use native.Mathlib.Omega.{arith}
use lib.ListN.{length}
use Rattle.timing.specs.declared.Pair.{Pair}
use Rattle.timing.specs.Rules.{Each}
use Rattle.timing.proofs.EachLaws.{each_append, append-each}
use Rattle.split_laws.specs.Split.{Found, nothing, found, works, splits, or_else, first_of, first_split, is_found, split_works}

-- ---- a property of each split of n registers

-- one choice more in front of each
abbrev pushed : Bool → List (List Bool) → List (List Bool)
pushed b l = map (λ (c : List Bool). b ∷ c) l

module _ (P : List Bool → Type 0) (b : Bool) where
  each_pushed : (l : List (List Bool)) → Each (λ (c : List Bool). P (b ∷ c)) l → Each P (pushed b l)
  each_pushed [] h = tt
  each_pushed (c ∷ l) h = (h.0, each_pushed l h.1)

  pushed-each : (l : List (List Bool)) → Each P (pushed b l) → Each (λ (c : List Bool). P (b ∷ c)) l
  pushed-each [] h = tt
  pushed-each (c ∷ l) h = (h.0, pushed-each l h.1)

-- what holds of every split of n registers holds of each in the run
each-split : (n : ℕ) (P : List Bool → Type 0) → ((c : List Bool) → length c ≡ n → P c) → Each P (splits n)
unfolding splits
each-split zero P h = (h [] refl, tt)
each-split (suc n) P h =
    each_append P (pushed false (splits n)) (pushed true (splits n))
    (each_pushed P false (splits n) (each-split n (λ (c : List Bool). P (false ∷ c)) (λ c e. h (false ∷ c) (ap suc e))))
    (each_pushed P true (splits n) (each-split n (λ (c : List Bool). P (true ∷ c)) (λ c e. h (true ∷ c) (ap suc e))))

-- and back: the run holds every split of n registers
split-each : (n : ℕ) (P : List Bool → Type 0) → Each P (splits n) → (c : List Bool) → length c ≡ n → P c
unfolding splits
split-each zero P h [] e = h.0
split-each zero P h (b ∷ c) e = absurd (omega arith)
split-each (suc n) P h [] e = absurd (omega arith)
split-each (suc n) P h (false ∷ c) e =
    split-each n (λ (d : List Bool). P (false ∷ d))
    (pushed-each P false (splits n) (append-each P (pushed false (splits n)) (pushed true (splits n)) h).0) c (suc_inj e)
split-each (suc n) P h (true ∷ c) e =
    split-each n (λ (d : List Bool). P (true ∷ d))
    (pushed-each P true (splits n) (append-each P (pushed false (splits n)) (pushed true (splits n)) h).1) c (suc_inj e)

-- ---- the first of a run

module _ (f : List Bool → Bool) where
  -- what is found passes, and has what each in the run has
  first-has : (P : List Bool → Type 0) (l : List (List Bool)) → Each P l → (c : List Bool) → first_of f l ≡ found c → (f c ≡ true) × P c
  unfolding first_of
  first-has P [] h c e = absurd (let z : ◌≡◌ {A = ℕ} 0 1 = cc in omega arith)
  first-has P (d ∷ l) h c e = go (f d) refl e (first-has P l h.1 c)
    where
      go : (b : Bool) → f d ≡ b → or_else b d (first_of f l) ≡ found c → (first_of f l ≡ found c → (f c ≡ true) × P c) → (f c ≡ true) × P c
      go true p q later = let z : c ≡ d = cc in rw z (p, h.0)
      go false p q later = later q

  -- where nothing is found, none in the run passes
  none_passes : (l : List (List Bool)) → first_of f l ≡ nothing → Each (λ (c : List Bool). f c ≡ false) l
  unfolding first_of
  none_passes [] e = tt
  none_passes (d ∷ l) e = go (f d) refl e (none_passes l)
    where
      go : (b : Bool) → f d ≡ b → or_else b d (first_of f l) ≡ nothing → (first_of f l ≡ nothing → Each (λ (c : List Bool). f c ≡ false) l)
          → (f d ≡ false) × Each (λ (c : List Bool). f c ≡ false) l
      go true p q later = absurd (let z : ◌≡◌ {A = ℕ} 0 1 = cc in omega arith)
      go false p q later = (p, later q)

-- ---- the first split

-- the first of the splits of n registers that work at period t and offset s
pub record WorkingSplit (n t s : ℕ) (ps : List Pair) : Type 0 where
  pub split : List Bool
  pub first : first_split n t s ps ≡ found split
  pub size : length split ≡ n
  pub works : works t s ps split ≡ true

module _ (n t s : ℕ) (ps : List Pair) where
  -- what is found is a split of n registers that works
  pub found-works : (c : List Bool) → first_split n t s ps ≡ found c → (works t s ps c ≡ true) × (length c ≡ n)
  unfolding first_split
  found-works c q = first-has (works t s ps) (λ d. length d ≡ n) (splits n) (each-split n (λ d. length d ≡ n) (λ d l. l)) c q

  -- where nothing is found, no split of n registers works
  pub none-works : first_split n t s ps ≡ nothing → (c : List Bool) → length c ≡ n → works t s ps c ≡ false
  unfolding first_split
  none-works q = split-each n (λ d. works t s ps d ≡ false) (none_passes (works t s ps) (splits n) q)

  pub split-there : split_works n t s ps ≡ true → WorkingSplit n t s ps
  unfolding split_works
  split-there e = go (first_split n t s ps) refl e
    where
      go : (x : Found) → first_split n t s ps ≡ x → is_found x ≡ true → WorkingSplit n t s ps
      go nothing q h = absurd (false≢true h)
      go (found c) q h =
          let has = found-works c q in
          record { split = c; first = q; size = has.1; works = has.0 }

  pub works→there : (c : List Bool) → length c ≡ n → works t s ps c ≡ true → split_works n t s ps ≡ true
  unfolding split_works
  works→there c l w = go (first_split n t s ps) refl
    where
      go : (x : Found) → first_split n t s ps ≡ x → is_found x ≡ true
      go (found d) q = refl
      go nothing q = absurd (false≢true (sym (none-works q c l) ∙ w))
