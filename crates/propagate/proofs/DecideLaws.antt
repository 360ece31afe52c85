-- From a blank scratch to the first split.
-- Blank marks agree with every split, so what the passes say holds of every split that works. Where no pair forces more, the
-- marks give a split that works and is late only where each such split is: the first (`first_found`). A clash: none (`first-none`).
use mathlib.Core.Path.{◌≡◌, sym, ◌∙◌, ap}
use mathlib.Core.Bool.{Bool, true, false}
use mathlib.Core.List.{List, ◌++◌}
use Prim.Native.Nat.{ℕ, ◌+◌, ◌-◌, ◌*◌}
use native.Mathlib.Omega.{arith}
use lib.ListN.{length, get_or, take, drop, replicate, length-append, length-drop, length-replicate}
use lib.Seq.{drop_at, take_at, take-take, take-append-le, drop-drop, length-take-le}
use Rattle.buffers.proofs.FillLaws.{drop-further}
use Rattle.buffers.proofs.PadLaws.{zero-at}
use Rattle.buffers.specs.Over.{over}
use Rattle.timing.specs.Limits.{per_pair}
use Rattle.list_format.specs.Lists.{pair_count, pairs}
use Rattle.list_format.proofs.ListLaws.{each-pair}
use Rattle.split_laws.specs.Split.{works, first_split}
use Rattle.split_laws.specs.Marks.{Agrees, split_of, MarksClosed}
use Rattle.split_laws.proofs.ClosureLaws.{first-none, first_found}
use Rattle.propagate.specs.Store.{flags_from, flags_to, Lent, Prepared, Decided, chosen}
use Rattle.propagate.specs.Passes.{Working, Propagated}
use Rattle.propagate.proofs.StoreLaws.{lent-room, flags-length, recorded, brought-back}

module _ (t s : ℕ) (ws : List ℕ) (n : ℕ) where
  -- ---- the marks cleared, and the flags recorded in the part lent
  pub prepared : (S : List ℕ) {m : ℕ} {S₁ F : List ℕ} → Lent ws n m S → S₁ ≡ replicate n 0 ++ drop n S
      → F ≡ over (flags_to t s ws (pair_count ws)) (take (length S₁ - flags_from n) (drop (flags_from n) S₁))
      → Prepared t s ws n S (take (flags_from n) S₁ ++ (F ++ drop (length S₁ - flags_from n) (drop (flags_from n) S₁)))
  prepared S {S₁} {F} lent e f = rw is (record {
    size = simp (length-append, length-drop) (omega (arith, size₁, front, width, lent-room lent));
    blank = take-append-le n (take (flags_from n) S₁) behind (omega (arith, front)) ∙ take-take n (flags_from n) S₁ (omega arith) ∙ ap (take n) e
        ∙ take_at (replicate n 0) (drop n S) n (length-replicate n 0);
    flags = rw (drop_at (take (flags_from n) S₁) behind (flags_from n) front) (recorded t s ws _);
    rest = sym (drop-drop (per_pair * pair_count ws) (flags_from n) (take (flags_from n) S₁ ++ behind))
        ∙ ap (drop (per_pair * pair_count ws)) (drop_at (take (flags_from n) S₁) behind (flags_from n) front)
        ∙ drop_at (flags_to t s ws (pair_count ws)) _ (per_pair * pair_count ws) width
        ∙ ap (λ (k : ℕ). drop (flags_from n + k) S₁) width
        ∙ drop-further n (flags_from n + per_pair * pair_count ws) S S₁ (omega arith)
        (ap (drop n) e ∙ drop_at (replicate n 0) (drop n S) n (length-replicate n 0));
  })
    where
      behind : List ℕ
      behind = flags_to t s ws (pair_count ws) ++ drop (flags_from n + length (flags_to t s ws (pair_count ws))) S₁

      width : length (flags_to t s ws (pair_count ws)) ≡ per_pair * pair_count ws
      width = flags-length t s ws (pair_count ws)

      size₁ : length S₁ ≡ length S
      size₁ = ap length e ∙ simp (length-append, length-replicate, length-drop) (omega (arith, lent-room lent))

      front : length (take (flags_from n) S₁) ≡ flags_from n
      front = length-take-le (flags_from n) S₁ (omega (arith, size₁, lent-room lent))

      is : take (flags_from n) S₁ ++ (F ++ drop (length S₁ - flags_from n) (drop (flags_from n) S₁)) ≡ take (flags_from n) S₁ ++ behind
      is = brought-back (flags_from n) (flags_to t s ws (pair_count ws)) S₁ F f

  -- ---- the passes decide
  module _ (S S₂ : List ℕ) {m : ℕ} {S₁ : List ℕ} (lent : Lent ws n m S) (start : Prepared t s ws n S S₁) where
    working : (c : List Bool) → works t s (pairs ws) c ≡ true → Working ws (drop (flags_from n) S₁) c
    working c w = record { period = t; offset = s; flags = start.flags; works = w }

    blank : (c : List Bool) → Agrees c (take n S₁)
    blank c i z = absurd (z (ap (λ (M : List ℕ). get_or M i 0) start.blank ∙ zero-at n i))

    size : Propagated ws n S₁ S₂ true → length (take n S₂) ≡ n
    size h = length-take-le n S₂ (omega (arith, h.carried.size, start.size, lent-room lent))

    first-is : (r : Bool) → Propagated ws n S₁ S₂ r → first_split n t s (pairs ws) ≡ chosen r (split_of (take n S₂))
    first-is true h =
        first_found n t s (pairs ws) (take n S₂) (size h) (each-pair ws (λ p. MarksClosed t s p (take n S₂)) (λ k l. h.said k l t s start.flags))
        (λ c w. h.carried.kept.sound c (working c w) (blank c))
    first-is false h = first-none n t s (pairs ws) (λ c w. h.said c (working c w) (blank c))

    pub decided : {r : Bool} → Propagated ws n S₁ S₂ r → Decided t s ws n S S₂ r
    decided {r} h = record {
      size = h.carried.size ∙ start.size;
      rest = drop-further n (flags_from n + per_pair * pair_count ws) S₁ S₂ (omega arith) h.carried.rest ∙ start.rest;
      first = first-is r h;
    }
