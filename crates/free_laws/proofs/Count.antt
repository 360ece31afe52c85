-- Counting the registers of a set, given by its test; a set that grows fills up.
use mathlib.Core.Bool.{Bool, true, false, false≢true}
use mathlib.Core.Logic.{◌⊎◌, inl, inr}
use mathlib.Core.Path.{◌≡◌, refl, ap, sym, ◌∙◌}
use Prim.Native.Nat.{ℕ, zero, suc, ◌+◌, ◌≤◌, ◌<◌, min, zero-le}
use native.Mathlib.Nat.{not-suc-le-zero, eq-or-lt_of_le}
use native.Mathlib.Omega.{arith}

abbrev pub bit : Bool → ℕ
bit false = 0
bit true = 1

-- how many of the registers below n are in the set
unfoldable pub count : ℕ → (ℕ → Bool) → ℕ
count zero g = 0
count (suc n) g = bit (g n) + count n g

bit_le : (b : Bool) → bit b ≤ 1
bit_le false = omega arith
bit_le true = omega arith

bit-mono : (a b : Bool) → (a ≡ true → b ≡ true) → bit a ≤ bit b
bit-mono false b h = zero-le
bit-mono true b h = omega (arith, ap bit (h refl))

-- below suc n: n itself, or below n
pub below_suc : {r n : ℕ} → r < suc n → (r ≡ n) ⊎ (r < n)
below_suc {r} {n} h = go (eq-or-lt_of_le h)
  where
    go : (suc r ≡ suc n) ⊎ (suc r < suc n) → (r ≡ n) ⊎ (r < n)
    go (inl e) = inl (omega arith)
    go (inr k) = inr (omega arith)

-- a register outside the set, or none
pub find : (n : ℕ) (g : ℕ → Bool) → ((q : ℕ) × (q < n) × (g q ≡ false)) ⊎ ((r : ℕ) → r < n → g r ≡ true)
find zero g = inr (λ r h. absurd (not-suc-le-zero h))
find (suc n) g = go (g n) refl (find n g)
  where
    go : (b : Bool) → g n ≡ b → ((q : ℕ) × (q < n) × (g q ≡ false)) ⊎ ((r : ℕ) → r < n → g r ≡ true)
        → ((q : ℕ) × (q < suc n) × (g q ≡ false)) ⊎ ((r : ℕ) → r < suc n → g r ≡ true)
    go false e rest = inl (n, omega arith, e)
    go true e (inl w) = inl (w.0, omega arith, w.2)
    go true e (inr all) = inr (λ r h. last r (below_suc h))
      where
        last : (r : ℕ) → (r ≡ n) ⊎ (r < n) → g r ≡ true
        last r (inl q) = ap g q ∙ e
        last r (inr k) = all r k

pub count-le : (n : ℕ) (g : ℕ → Bool) → count n g ≤ n
unfolding count
count-le zero g = zero-le
count-le (suc n) g = omega (arith, bit_le (g n), count-le n g)

pub count-mono : (n : ℕ) (g h : ℕ → Bool) → ((r : ℕ) → r < n → g r ≡ true → h r ≡ true) → count n g ≤ count n h
unfolding count
count-mono zero g h m = zero-le
count-mono (suc n) g h m =
    omega (arith, bit-mono (g n) (h n) (m n (omega arith)), count-mono n g h (λ r k. m r (omega arith)))

-- one register more
pub count-more : (n : ℕ) (g h : ℕ → Bool) → ((r : ℕ) → r < n → g r ≡ true → h r ≡ true) → (q : ℕ) → q < n → g q ≡ false
    → h q ≡ true → count n g < count n h
unfolding count
count-more zero g h m q k e f = absurd (not-suc-le-zero k)
count-more (suc n) g h m q k e f = go (below_suc k) (λ l. count-more n g h (λ r j. m r (omega arith)) q l e f)
  where
    go : (q ≡ n) ⊎ (q < n) → (q < n → count n g < count n h) → count (suc n) g < count (suc n) h
    go (inl p) rest = omega (arith, ap bit (sym (ap g p) ∙ e), ap bit (sym (ap h p) ∙ f), count-mono n g h (λ r j. m r (omega arith)))
    go (inr l) rest = omega (arith, bit-mono (g n) (h n) (m n (omega arith)), rest l)

-- as many as there are registers: all of them
pub count-full : (n : ℕ) (g : ℕ → Bool) → n ≤ count n g → (r : ℕ) → r < n → g r ≡ true
count-full n g full r h = go (g r) refl
  where
    go : (b : Bool) → g r ≡ b → g r ≡ true
    go true e = e
    go false e = absurd (omega (arith, count-more n g (λ q. true) (λ q k f. refl) r h e refl, count-le n (λ q. true)))

pub count-all : (n : ℕ) (g : ℕ → Bool) → ((r : ℕ) → r < n → g r ≡ true) → n ≤ count n g
unfolding count
count-all zero g h = zero-le
count-all (suc n) g h = omega (arith, ap bit (h n (omega arith)), count-all n g (λ r k. h r (omega arith)))

-- a set that lost no member, and gained one if one was missing, has one more or is full
pub grow : (n k : ℕ) (g h : ℕ → Bool) → ((r : ℕ) → r < n → g r ≡ true → h r ≡ true)
    → ((q : ℕ) → q < n → g q ≡ false → (p : ℕ) × (p < n) × (g p ≡ false) × (h p ≡ true))
    → min k n ≤ count n g → min (suc k) n ≤ count n h
grow n k g h keep gain have = go (find n g)
  where
    go : ((q : ℕ) × (q < n) × (g q ≡ false)) ⊎ ((r : ℕ) → r < n → g r ≡ true) → min (suc k) n ≤ count n h
    go (inl w) = let v = gain w.0 w.1 w.2 in omega (arith, count-more n g h keep v.0 v.1 v.2 v.3)
    go (inr all) = omega (arith, count-all n h (λ r b. keep r b (all r b)))

-- a set with a member has one
pub grow_first : (n : ℕ) (h : ℕ → Bool) → (0 < n → (q : ℕ) × (q < n) × (h q ≡ true)) → min 1 n ≤ count n h
grow_first n h base = go (eq-or-lt_of_le zero-le)
  where
    go : (0 ≡ n) ⊎ (0 < n) → min 1 n ≤ count n h
    go (inl e) = omega arith
    go (inr b) = let w = base b in omega (arith, count-more n (λ q. false) h (λ r j e. absurd (false≢true e)) w.0 w.1 refl w.2)

-- sets that start with a member, never lose one, and gain one while one is missing, are full after n - 1 steps
module _ (n : ℕ) (g : ℕ → ℕ → Bool)
    (base : 0 < n → (q : ℕ) × (q < n) × (g 0 q ≡ true))
    (keep : (k r : ℕ) → r < n → g k r ≡ true → g (suc k) r ≡ true)
    (gain : (k q : ℕ) → q < n → g k q ≡ false → (p : ℕ) × (p < n) × (g k p ≡ false) × (g (suc k) p ≡ true)) where
  grows : (k : ℕ) → min (suc k) n ≤ count n (g k)
  grows zero = grow_first n (g 0) base
  grows (suc k) = grow n (suc k) (g k) (g (suc k)) (keep k) (gain k) (grows k)

  pub fills : (k : ℕ) → n ≤ suc k → (r : ℕ) → r < n → g k r ≡ true
  fills k h = count-full n (g k) (omega (arith, grows k))
