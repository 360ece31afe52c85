-- Laws of the scratch of a trial: what is recorded, and the part that is lent to the recording.
-- The four flags of pair k stand at places 4k to 4k + 3 (`recorded`).
use mathlib.Core.Path.{◌≡◌, refl, sym, ap, ◌∙◌}
use mathlib.Core.List.{List, [], ◌∷◌, ◌++◌, append-nil, append_assoc}
use Prim.Native.Nat.{ℕ, zero, suc, ◌+◌, ◌-◌, ◌*◌, ◌≤◌, ◌<◌}
use native.Mathlib.Omega.{arith}
use lib.ListN.{length-map, length, get_or, take, drop, length-append, length-drop, drop_of_length-le, get_or-append}
use lib.Seq.{ext_get_or, get_or-take, length-take-le, get_or-drop, take_all, drop-drop}
use Rattle.timing.specs.declared.Pair.{Pair}
use Rattle.timing.specs.Limits.{per_pair, scratch_places}
use Rattle.buffers.specs.Run.{run}
use Rattle.buffers.specs.Over.{over}
use Rattle.buffers.proofs.RunLaws.{run_length, run_at}
use Rattle.buffers.proofs.FillLaws.{Filling, filling-end}
use Rattle.list_format.specs.Lists.{pair_count, pair_at}
use Rattle.split_laws.specs.Split.{time_of, timings}
use Rattle.split_laws.specs.Choices.{is_late, flag_at}
use Rattle.split_laws.specs.Marks.{split_of, Flagged}
use Rattle.split_laws.proofs.ClosureLaws.{time-of, length-split_of, get_d-split_of}
use Rattle.propagate.specs.Store.{flags_of, flags_to, four_at, Recorded, Lent}

pub lent-kept : {ws : List ℕ} {n m : ℕ} {S S' : List ℕ} → Lent ws n m S → length S' ≡ length S → Lent ws n m S'
lent-kept r e = record { list = r.list; room = rw e r.room }

pub lent-room : {ws : List ℕ} {n m : ℕ} {S : List ℕ} → Lent ws n m S → scratch_places n (pair_count ws) ≤ length S
lent-room r = omega (arith, r.room, r.list.pairs_are)

-- ---- flags

pub flags-length : (t s : ℕ) (ws : List ℕ) (k : ℕ) → length (flags_to t s ws k) ≡ per_pair * k
flags-length t s ws = run_length _ per_pair (λ k. refl)

-- the flag of row j
flag_at_lem : (t s : ℕ) (p : Pair) (j : ℕ) → j < per_pair → get_or (flags_of t s p) j 0 ≡ flag_at t s p j
flag_at_lem t s p zero h = refl
flag_at_lem t s p (suc zero) h = refl
flag_at_lem t s p (suc (suc zero)) h = refl
flag_at_lem t s p (suc (suc (suc zero))) h = refl
flag_at_lem t s p (suc (suc (suc (suc j)))) h = absurd (omega arith)

-- what stands at place j of four
pub four-at : (F : List ℕ) (at j : ℕ) → j < per_pair → get_or (four_at F at) j 0 ≡ get_or F (at + j) 0
four-at F at zero h = let e : at + 0 ≡ at = omega arith in rw e
four-at F at (suc zero) h = refl
four-at F at (suc (suc zero)) h = refl
four-at F at (suc (suc (suc zero))) h = refl
four-at F at (suc (suc (suc (suc j)))) h = absurd (omega arith)

-- the flags of the rows, one after the other, in the four places from `at` on
pub pair-recorded : (t s : ℕ) (p : Pair) (at : ℕ) {was now : List ℕ} {k : ℕ} → at + per_pair ≤ length was
    → Filling (take at was) (λ j. flag_at t s p j ∷ []) per_pair was now k → per_pair ≤ k
    → now ≡ take at was ++ (flags_of t s p ++ drop (at + per_pair) was)
unfolding run
pair-recorded t s p at {was} h f l =
    filling-end f l ∙ rw (length-append, length-take-le at was (omega arith), append_assoc) refl

pub recorded : (t s : ℕ) (ws after : List ℕ) → Recorded t s ws (flags_to t s ws (pair_count ws) ++ after)
recorded t s ws after = record { each = each }
  where
    each : (k : ℕ) → k < pair_count ws → Flagged t s (pair_at ws k) (four_at (flags_to t s ws (pair_count ws) ++ after) (per_pair * k))
    each k h j l =
        four-at (flags_to t s ws (pair_count ws) ++ after) (per_pair * k) j l
        ∙ (get_or-append (flags_to t s ws (pair_count ws)) after 0 (per_pair * k + j) (rw (flags-length t s ws (pair_count ws)) (omega arith))
        ∙ (run_at (λ i. flags_of t s (pair_at ws i)) per_pair (λ i. refl) (pair_count ws) k j h l ∙ flag_at_lem t s (pair_at ws k) j l))

-- the flags of a pair, read from the whole scratch
pub four-drop : (cut k : ℕ) (S : List ℕ) → four_at S (cut + per_pair * k) ≡ four_at (drop cut S) (per_pair * k)
four-drop cut k S =
    let e1 : cut + per_pair * k + 1 ≡ cut + (per_pair * k + 1) = omega arith in
    let e2 : cut + per_pair * k + 2 ≡ cut + (per_pair * k + 2) = omega arith in
    let e3 : cut + per_pair * k + 3 ≡ cut + (per_pair * k + 3) = omega arith in
    let at : (j : ℕ) → get_or (drop cut S) j 0 ≡ get_or S (cut + j) 0 = λ j. get_or-drop cut S j 0 in
    rw (e1, e2, e3, at (per_pair * k), at (per_pair * k + 1), at (per_pair * k + 2), at (per_pair * k + 3))

-- ---- the part from `cut` on, lent and brought back with its first places filled by fs

-- what is lent
pub lent : (cut : ℕ) (S : List ℕ) → take (length S - cut) (drop cut S) ≡ drop cut S
lent cut S = take_all (length S - cut) (drop cut S) (simp length-drop (omega arith))

pub brought-back : (cut : ℕ) (fs S F : List ℕ) → F ≡ over fs (take (length S - cut) (drop cut S))
    → take cut S ++ (F ++ drop (length S - cut) (drop cut S)) ≡ take cut S ++ (fs ++ drop (cut + length fs) S)
brought-back cut fs S F e = rw (none, append-nil, e, lent cut S, drop-drop)
  where
    none : drop (length S - cut) (drop cut S) ≡ []
    none = drop_of_length-le (drop cut S) {i = length S - cut} (simp length-drop (omega arith))

-- ---- the split that the marks give, as timings

pub timings-run : (s n : ℕ) (M : List ℕ) → n ≤ length M → run (λ k. time_of s (is_late (get_or M k 0)) ∷ []) n ≡ timings s (split_of (take n M))
timings-run s n M h = ext_get_or 0 _ _ (size ∙ sym sizes) each
  where
    size : length (run (λ k. time_of s (is_late (get_or M k 0)) ∷ []) n) ≡ n
    size = run_length _ 1 (λ k. refl) n ∙ omega arith

    sizes : length (timings s (split_of (take n M))) ≡ n
    sizes = length-map (split_of (take n M)) (time_of s) ∙ length-split_of (take n M) ∙ length-take-le n M h

    each : (i : ℕ) → i < length (run (λ k. time_of s (is_late (get_or M k 0)) ∷ []) n)
        → get_or (run (λ k. time_of s (is_late (get_or M k 0)) ∷ []) n) i 0 ≡ get_or (timings s (split_of (take n M))) i 0
    each i l =
        let below : i < n = omega (arith, size) in
        let e : 1 * i + 0 ≡ i = omega arith in
        (rw e at (run_at (λ k. time_of s (is_late (get_or M k 0)) ∷ []) 1 (λ k. refl) n i 0 below (omega arith)))
        ∙ sym (time-of s (split_of (take n M)) i ∙ ap (time_of s) (get_d-split_of (take n M) i ∙ ap is_late (get_or-take n M i 0 below)))
