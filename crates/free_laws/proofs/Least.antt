-- The least schedule that meets a list of rules: that it exists, that there is only one, and how late it can be.
-- It exists because rounds from all zero raise the sum of the times, and stay below any times that meet the rules.
-- How late it can be follows from the crossing argument: a tight rule leads out of any set that holds the registers
-- at 0 and leaves one out.
use mathlib.Core.Bool.{Bool, true, false, false≢true}
use mathlib.Core.List.{List, [], ◌∷◌}
use mathlib.Core.Logic.{◌⊎◌, inl, inr}
use mathlib.Core.Path.{◌≡◌, refl, ap, sym, ◌∙◌}
use Prim.Native.Nat.{ℕ, zero, suc, ◌+◌, ◌-◌, ◌*◌, ◌≤◌, ◌<◌, zero-le}
use native.Mathlib.Decide.{dec_lt}
use native.Mathlib.Nat.{suc-ne-zero, suc_inj}
use native.Mathlib.Omega.{arith}
use lib.Dec.{leb, ltb}
use lib.ListN.{length, length-replicate, get_or-eq_default}
use lib.Seq.{ext_get_or}
use borrow.Author.Tests.{leb-true, leb-false, le-leb, ltb-true, ltb-false}
use Rattle.timing.specs.Rules.{time, Each}
use Rattle.buffers.specs.Over.{zeros}
use Rattle.timing.proofs.EachLaws.{Some, each-zip, pick_some, sift}
use Rattle.free_laws.specs.Constraint.{Constraint, Meets, Within, Below, Least}
use Rattle.free_laws.specs.Raise.{Round}
use Rattle.free_laws.proofs.Sweep.{zeros-below, sweeps, sweep-round, still-meets}
use Rattle.free_laws.proofs.Count.{bit, find, fills}

pub least-unique : {rs : List Constraint} {n : ℕ} {x l : List ℕ} → Least rs n x → Least rs n l → x ≡ l
least-unique {rs} {n} {x} {l} a b =
    ext_get_or 0 x l (a.size ∙ sym b.size) (λ r h. omega (arith, a.below (time l) b.meets r, b.below (time x) a.meets r))

-- ---- the sum of a schedule

total : List ℕ → ℕ
total [] = 0
total (a ∷ x) = a + total x

sum_to : ℕ → (ℕ → ℕ) → ℕ
sum_to zero f = 0
sum_to (suc n) f = f 0 + sum_to n (λ r. f (suc r))

total_mono : (x y : List ℕ) → Below x (time y) → total x ≤ total y
unfolding total
total_mono [] y b = zero-le
total_mono (a ∷ x) [] b = omega (arith, b 0, total_mono x [] (λ r. b (suc r)))
total_mono (a ∷ x) (c ∷ y) b = omega (arith, b 0, total_mono x y (λ r. b (suc r)))

total-below : (x : List ℕ) (f : ℕ → ℕ) → Below x f → total x ≤ sum_to (length x) f
unfolding total sum_to
total-below [] f b = zero-le
total-below (a ∷ x) f b = omega (arith, b 0, total-below x (λ r. f (suc r)) (λ r. b (suc r)))

-- raised nowhere: the same
same_total : (x y : List ℕ) → length x ≡ length y → Below x (time y) → total y ≤ total x → x ≡ y
unfolding total
same_total [] [] l b h = refl
same_total [] (c ∷ y) l b h = absurd (suc-ne-zero _ (sym l))
same_total (a ∷ x) [] l b h = absurd (suc-ne-zero _ l)
same_total (a ∷ x) (c ∷ y) l b h =
    let more = total_mono x y (λ r. b (suc r)) in
    let head : a ≡ c = omega (arith, b 0) in
    let rest = same_total x y (suc_inj l) (λ r. b (suc r)) (omega (arith, b 0)) in
    cc

-- ---- rounds from all zero

-- the schedule after k rounds
abbrev pub after : List Constraint → ℕ → ℕ → List ℕ
after rs n k = sweeps k rs (zeros n)

module _ (rs : List Constraint) (n : ℕ) (w : Each (Within n) rs) where
  pub after-size : (k : ℕ) → length (after rs n k) ≡ n
  unfolding sweeps
  after-size zero = length-replicate n 0
  after-size (suc k) = (sweep-round 0 n rs (after rs n k) w (after-size k)).size ∙ after-size k

  -- one round more
  pub after-round : (c k : ℕ) → Round c rs (after rs n k) (after rs n (suc k))
  unfolding sweeps
  after-round c k = sweep-round c n rs (after rs n k) w (after-size k)

  after-below : (k : ℕ) (f : ℕ → ℕ) → Each (Meets f) rs → Below (after rs n k) f
  unfolding sweeps
  after-below zero f m = zeros-below n f
  after-below (suc k) f m = (after-round 0 k).low f m (after-below k f m)

  -- a round that adds nothing to the sum changes nothing, so the rules are met
  stop : (k : ℕ) → total (after rs n (suc k)) ≤ total (after rs n k) → Each (Meets (time (after rs n k))) rs
  unfolding sweeps
  stop k h =
      still-meets n rs (after rs n k) w (after-size k)
      (sym (same_total (after rs n k) (after rs n (suc k)) (after-size k ∙ sym (after-size (suc k))) (after-round 0 k).up h))

  module _ (f : ℕ → ℕ) (m : Each (Meets f) rs) where
    under : (k : ℕ) → total (after rs n k) ≤ sum_to n f
    under k = rw (after-size k) at (total-below (after rs n k) f (after-below k f m))

    -- each round that changes anything adds to the sum, which f bounds: some round changes nothing (what f leaves falls)
    settle : (fuel k : ℕ) → sum_to n f ≤ total (after rs n k) + fuel → (j : ℕ) × Each (Meets (time (after rs n j))) rs
    settle zero k h = (k, stop k (omega (arith, under (suc k))))
    settle (suc fuel) k h = go (leb (total (after rs n (suc k))) (total (after rs n k))) refl (λ j. settle fuel (suc k) j)
      where
        go : (b : Bool) → leb (total (after rs n (suc k))) (total (after rs n k)) ≡ b
            → (sum_to n f ≤ total (after rs n (suc k)) + fuel → (j : ℕ) × Each (Meets (time (after rs n j))) rs)
            → (j : ℕ) × Each (Meets (time (after rs n j))) rs
        go true e next = (k, stop k (omega (arith, leb-true)))
        go false e next = next (omega (arith, leb-false))

    -- where some times meet the rules there is a least schedule: what the rounds settle at meets the rules, and every
    -- round stays below all times that meet them
    pub least-exists : (l : List ℕ) × Least rs n l
    least-exists =
        let s = settle (sum_to n f) 0 (omega arith) in
        (after rs n s.0, record { size = after-size s.0; meets = s.1; below = after-below s.0 })

-- ---- a tight rule leads out of any set that holds the registers at 0

abbrev pub Crosses : List ℕ → (ℕ → Bool) → Constraint → Type 0
Crosses l g r = (g r.src ≡ true) × (g r.dst ≡ false) × (time l r.src + r.gain ≡ time l r.dst + r.allowance)

-- the registers outside the set, 1 earlier
lowered : List ℕ → (ℕ → Bool) → ℕ → ℕ
lowered l g r = time l r - (1 - bit (g r))

module _ (rs : List Constraint) (n : ℕ) (l : List ℕ) (w : Each (Within n) rs) (least : Least rs n l) where
  -- The crossing argument. Put all registers outside the set g 1 earlier. Rules with both ends inside, or both outside,
  -- see no change; a rule that leads in gets easier; one that leads out is still met unless it was tight. So if no tight
  -- rule led out, the lowered times would meet every rule and be below the least schedule.
  module _ (g : ℕ → Bool) (pos : (r : ℕ) → r < n → g r ≡ false → 0 < time l r) where
    crosses-or-meets : (r : Constraint) → Within n r → Meets (time l) r → Crosses l g r ⊎ Meets (lowered l g) r
    unfolding lowered
    crosses-or-meets r h m = go (g r.src) (g r.dst) (leb (time l r.dst + r.allowance) (time l r.src + r.gain)) refl refl refl
      where
        go : (a b c : Bool) → g r.src ≡ a → g r.dst ≡ b → leb (time l r.dst + r.allowance) (time l r.src + r.gain) ≡ c
            → Crosses l g r ⊎ Meets (lowered l g) r
        go true true c ea eb ec = inr (omega (arith, ap bit ea, ap bit eb))
        go true false true ea eb ec = inl (ea, eb, omega (arith, leb-true))
        go true false false ea eb ec = inr (omega (arith, ap bit ea, ap bit eb, leb-false, pos r.dst h.1 eb))
        go false true c ea eb ec = inr (omega (arith, ap bit ea, ap bit eb))
        go false false c ea eb ec = inr (omega (arith, ap bit ea, ap bit eb, pos r.src h.0 ea, pos r.dst h.1 eb))

    pub cross : (q : ℕ) → q < n → g q ≡ false → Some (Crosses l g) rs
    unfolding lowered
    cross q h e = go (sift (Crosses l g) (Meets (lowered l g)) rs (each-zip crosses-or-meets rs w least.meets))
      where
        go : Some (Crosses l g) rs ⊎ Each (Meets (lowered l g)) rs → Some (Crosses l g) rs
        go (inl s) = s
        go (inr a) = absurd (omega (arith, least.below (lowered l g) a q, ap bit e, pos q h e))

  -- some register stands at 0: no rule leads out of the empty set
  pub some-zero : 0 < n → (q : ℕ) × (q < n) × (time l q ≡ 0)
  some-zero h = go (find n (λ r. ltb 0 (time l r)))
    where
      none : (r : Constraint) → Within n r → Within n r → Crosses l (λ q. false) r → (q : ℕ) × (q < n) × (time l q ≡ 0)
      none r h k c = absurd (false≢true c.0)

      go : ((q : ℕ) × (q < n) × (ltb 0 (time l q) ≡ false)) ⊎ ((r : ℕ) → r < n → ltb 0 (time l r) ≡ true)
          → (q : ℕ) × (q < n) × (time l q ≡ 0)
      go (inl v) = (v.0, v.1, omega (arith, ltb-false 0 (time l v.0) v.2))
      go (inr all) =
          pick_some none rs w w
          (cross (λ q. false) (λ r k e. ltb-true 0 (time l r) (all r k)) 0 h refl)

  -- ---- how late a register can be: the registers at k steps or fewer grow with k

  -- A tight rule that leads out of the registers at k steps or fewer ends at most one step c later. So with each k one
  -- register more is among them, and from k = n - 1 on all are.

  module _ (c : ℕ) (steps : Each (λ r. r.gain ≤ r.allowance + c) rs) where
    soon : ℕ → ℕ → Bool
    soon k r = leb (time l r) (k * c)

    all-soon : (k : ℕ) → n ≤ suc k → (r : ℕ) → r < n → soon k r ≡ true
    unfolding soon
    all-soon = fills n soon base keep gain
      where
        base : 0 < n → (q : ℕ) × (q < n) × (soon 0 q ≡ true)
        base h = let v = some-zero h in (v.0, v.1, le-leb (time l v.0) (0 * c) (omega arith))

        keep : (k r : ℕ) → r < n → soon k r ≡ true → soon (suc k) r ≡ true
        keep k r h e = le-leb (time l r) (suc k * c) (omega (arith, leb-true (time l r) (k * c) e))

        gain : (k q : ℕ) → q < n → soon k q ≡ false → (p : ℕ) × (p < n) × (soon k p ≡ false) × (soon (suc k) p ≡ true)
        gain k q h e = pick_some step rs w steps (cross (soon k) (λ r b o. omega (arith, leb-false (time l r) (k * c) o)) q h e)
          where
            step : (r : Constraint) → Within n r → r.gain ≤ r.allowance + c → Crosses l (soon k) r
                → (p : ℕ) × (p < n) × (soon k p ≡ false) × (soon (suc k) p ≡ true)
            step r u v x =
                (r.dst, u.1, x.1, le-leb (time l r.dst) (suc k * c) (omega (arith, leb-true (time l r.src) (k * c) x.0)))

    -- no register is later than n - 1 of the largest steps
    pub bounded : (r : ℕ) → time l r ≤ (n - 1) * c
    unfolding soon
    bounded r = go (dec_lt r n)
      where
        go : Dec (r < n) → time l r ≤ (n - 1) * c
        go (yes h) = leb-true (time l r) ((n - 1) * c) (all-soon (n - 1) (omega arith) r h)
        go (no h) = rw (get_or-eq_default l 0 {n = r} (omega (arith, least.size))) zero-le
