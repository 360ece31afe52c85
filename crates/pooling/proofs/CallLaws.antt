-- The ways that pooling can end, each with the whole promise; and what is promised of a list pooled with itself, and of the order of the two.
use Prim.Native.Nat.{ℕ, ◌≤◌}
use mathlib.Core.Bool.{true, not}
use mathlib.Core.List.{List, [], ◌∷◌}
use mathlib.Core.Path.{◌≡◌, refl, sym, ◌∙◌, ap, subst}
use native.Mathlib.Omega.{arith}
use lib.ListN.{length, get_or, take, drop}
use lib.Seq.{take_at}
use denote.Ref.{Bor}
use borrow.Author.Tests.{ltb-false, le-ltb, not-false}
use Rattle.timing.specs.Limits.{max_pairs}
use Rattle.ordering.specs.Order.{Ascends}
use Rattle.ordering.proofs.OrderLaws.{ascends_same}
use Rattle.ordering.proofs.OrderLaws.{list-ascends as ascending-list}
use Rattle.buffers.specs.Over.{over}
use Rattle.std.specs.Prelude.{Result, Ok, Err}
use Rattle.refusals.specs.Checks.{no_fault, number_of, first_fault}
use Rattle.refusals.specs.declared.Refused.{Refused}
use Rattle.refusals.specs.Reply.{refused, done, reply_of, buffer_after}
use Rattle.refusals.proofs.CheckLaws.{passed, passes, stop-first, pass-first}
use Rattle.refusals.proofs.ReplyLaws.{first-refused, then-refused, then-done}
use Rattle.list_format.specs.Lists.{registers, pair_count, written_at, list_checks, verdict, IsAccepted}
use Rattle.list_format.proofs.ListLaws.{same, no_difference, refused→fault, accepted→none, accepted-in, list-in, list-ascends}
use Rattle.converter.specs.Convert.{written_pairs}
use Rattle.relist.specs.Relist.{relisted}
use Rattle.converter.proofs.StrungLaws.{no_pair, written-length, written-at}
use Rattle.relist.proofs.RelistLaws.{relisted-same}
use Rattle.merging.specs.Merge.{pooled_pairs}
use Rattle.pooling.specs.Pool.{pooled, same_needs, both_checks, pooling, is_passed, refused_list, of_list}
use Rattle.pooling.specs.Pool.{number_of_part, refused_part, part_of, Pooling, pool_reply, StandsFor, PooledAs}
use Rattle.pooling.specs.declared.PoolPart.{PoolPart}
use Rattle.pooling.specs.declared.PoolPart.TheVariants.{Call, First, Second}
use Rattle.pooling.specs.declared.PoolRefused.{PoolRefused}
use Rattle.pooling.proofs.PoolLaws.{OneChip, turned-chip, at_same, pooled-stands, pairs-turned, pooled-turned, pairs-itself}

-- ---- what passed checks of both lists say

pub record BothPassed (ws vs : List ℕ) (room : ℕ) : Type 0 where
  pub registers_are : registers ws ≡ registers vs
  pub needs_are : same_needs ws vs (registers ws) ≡ true
  pub few : length (pooled_pairs ws vs) ≤ max_pairs
  pub fits : length (pooled ws vs) ≤ room

module _ (ws vs : List ℕ) (room : ℕ) where
  pub both-passed : first_fault (both_checks ws vs room) ≡ no_fault → BothPassed ws vs room
  both-passed e =
      let p = passed (both_checks ws vs room) e in
      record {
        registers_are = same (registers ws) (registers vs) p.0;
        needs_are = not-false (same_needs ws vs (registers ws)) p.1.0;
        few = ltb-false max_pairs (length (pooled_pairs ws vs)) p.1.1.0;
        fits = ltb-false room (length (pooled ws vs)) p.1.1.1.0;
      }

  pub passed-both : BothPassed ws vs room → first_fault (both_checks ws vs room) ≡ no_fault
  passed-both b =
      passes (both_checks ws vs room) (
        no_difference (registers ws) (registers vs) b.registers_are,
        (ap not b.needs_are, (le-ltb max_pairs (length (pooled_pairs ws vs)) b.few, (le-ltb room (length (pooled ws vs)) b.fits, tt))),
      )

  -- ---- what a call comes to

  first-fault : {r : Refused} → first_fault (list_checks ws) ≡ Err r → pooling ws vs room ≡ refused (number_of r.refusal) r.place
  unfolding pooling
  first-fault e = first-refused (list_checks ws) _ _ e

  module _ (u : first_fault (list_checks ws) ≡ no_fault) where
    second-fault : {r : Refused} → first_fault (list_checks vs) ≡ Err r → pooling ws vs room ≡ refused (number_of r.refusal) r.place
    unfolding pooling
    second-fault e = then-refused (list_checks ws) _ _ u (stop-first (list_checks vs) (both_checks ws vs room) e)

    module _ (v : first_fault (list_checks vs) ≡ no_fault) where
      both-fault : {r : Refused} → first_fault (both_checks ws vs room) ≡ Err r → pooling ws vs room ≡ refused (number_of r.refusal) r.place
      unfolding pooling
      both-fault e = then-refused (list_checks ws) _ _ u (pass-first (list_checks vs) (both_checks ws vs room) v ∙ e)

      pub pooling-done : BothPassed ws vs room → pooling ws vs room ≡ done (length (pooled ws vs) ∷ []) (pooled ws vs)
      unfolding pooling
      pooling-done b = then-done (list_checks ws) _ _ u (pass-first (list_checks vs) (both_checks ws vs room) v ∙ passed-both b)

-- ---- which list

module _ (ws vs : List ℕ) where
  of-first : {r : Refused} → first_fault (list_checks ws) ≡ Err r → refused_list ws vs ≡ 1
  unfolding is_passed
  of-first e = rw e

  of-second : {r : Refused} → first_fault (list_checks ws) ≡ no_fault → first_fault (list_checks vs) ≡ Err r → refused_list ws vs ≡ 2
  unfolding is_passed
  of-second u e = rw (u, e)

  of-neither : first_fault (list_checks ws) ≡ no_fault → first_fault (list_checks vs) ≡ no_fault → refused_list ws vs ≡ 0
  unfolding is_passed
  of-neither u v = rw (u, v)

-- ---- what was found of a part of the call

-- a refusal of the part
pub record RefusedOf {A : Type 0} (part : PoolPart) (f : Result A Refused) (p : PoolRefused) : Type 0 where
  pub at : Refused
  pub was : f ≡ Err at
  pub told : p ≡ refused_part part at

module _ {A : Type 0} (part : PoolPart) where
  error_of : Refused → Result A PoolRefused → PoolRefused
  error_of r (Ok x) = refused_part part r
  error_of r (Err p) = p

  pub part-refused : (f : Result A Refused) {r : Result A PoolRefused} {p : PoolRefused} → r ≡ part_of part f → r ≡ Err p → RefusedOf part f p
  unfolding part_of error_of
  part-refused (Ok x) {r} {p} e d = let z : ◌≡◌ {A = ℕ} 0 1 = cc in absurd (omega arith)
  part-refused (Err x) {r} {p} e d = record { at = x; was = refl; told = ap (error_of x) (sym d ∙ e) }

  pub part-passed : (f : Result A Refused) {r : Result A PoolRefused} {x : A} → r ≡ part_of part f → r ≡ Ok x → f ≡ Ok x
  unfolding part_of
  part-passed (Ok y) e d = cc
  part-passed (Err y) e d = let z : ◌≡◌ {A = ℕ} 0 1 = cc in absurd (omega arith)

-- ---- the whole promise

module _ (ws vs was : List ℕ) where
  -- a refusal changes nothing
  not-pooled : {part : PoolPart} {r : Refused} → refused_list ws vs ≡ number_of_part part → pooling ws vs (length was) ≡ refused (number_of r.refusal) r.place
      → PooledAs ws vs was was (Err (refused_part part r))
  unfolding reply_of buffer_after pool_reply of_list
  not-pooled l e =
      record {
        reply = rw (e, l);
        stored = rw e;
        stands = λ count q. let z : ◌≡◌ {A = ℕ} 0 1 = cc in absurd (omega arith);
      }

  pub pool-first-refused : {r : Refused} → verdict ws ≡ Err r → PooledAs ws vs was was (Err (refused_part First r))
  pool-first-refused e =
      let f = refused→fault ws e in
      not-pooled {part = First} (of-first ws vs f) (first-fault ws vs (length was) f)

  module _ (a : IsAccepted ws) where
    pub pool-second-refused : {r : Refused} → verdict vs ≡ Err r → PooledAs ws vs was was (Err (refused_part Second r))
    pool-second-refused e =
        let u = (accepted→none ws a).none in
        let f = refused→fault vs e in
        not-pooled {part = Second} (of-second ws vs u f) (second-fault ws vs (length was) u f)

    module _ (b : IsAccepted vs) where
      pub pool-refused : {r : Refused} → first_fault (both_checks ws vs (length was)) ≡ Err r
          → PooledAs ws vs was was (Err (refused_part Call r))
      pool-refused e =
          let u = (accepted→none ws a).none in
          let v = (accepted→none vs b).none in
          not-pooled {part = Call} (of-neither ws vs u v) (both-fault ws vs (length was) u v e)

      -- the words are stored
      pub pool-done : first_fault (both_checks ws vs (length was)) ≡ no_fault → (now : List ℕ) (count : ℕ) → count ≡ length (pooled ws vs)
          → now ≡ over (pooled ws vs) was → PooledAs ws vs was now (Ok count)
      unfolding reply_of buffer_after pool_reply of_list
      pool-done e now count c s =
          let p = both-passed ws vs (length was) e in
          let is = pooling-done ws vs (length was) (accepted→none ws a).none (accepted→none vs b).none p in
          record { reply = rw (is, c); stored = rw is s; stands = again p }
        where
          again : BothPassed ws vs (length was) → (k : ℕ) → ◌≡◌ {A = Pooling} (Ok count) (Ok k) → StandsFor ws vs (take k now)
          again p k e =
              let size : length (pooled ws vs) ≡ k = cc in
              let front : take k now ≡ pooled ws vs = rw (s, take_at (pooled ws vs) (drop (length (pooled ws vs)) was) k size) in
              let chip : OneChip ws vs =
              record { first = accepted-in ws a; second = accepted-in vs b; registers_are = p.registers_are; needs_are = p.needs_are } in
              rw front (pooled-stands ws vs chip p.few)

-- ---- theorems

-- a list pooled with itself comes back
pub pool-itself : (ws : List ℕ) → IsAccepted ws → (room : ℕ) → length ws ≤ room → pooling ws ws room ≡ done (length ws ∷ []) ws
pool-itself ws a room h =
    let none = (accepted→none ws a).none in
    let l = list-in ws none in
    let rise : Ascends (λ k. get_or (written_pairs ws) k no_pair) (length (written_pairs ws)) = rw (written-length ws)
    (ascends_same (λ k. get_or (written_pairs ws) k no_pair) (written_at ws) (pair_count ws) (written-at ws no_pair) (list-ascends ws none)) in
    let pairs = pairs-itself ws l (ascending-list (written_pairs ws) no_pair rise) in
    let kept : pooled ws ws ≡ ws = ap (relisted ws) pairs ∙ relisted-same ws l in
    let passes : BothPassed ws ws room = record {
      registers_are = refl;
      needs_are = at_same ws ws (registers ws) (λ r b. (refl, refl));
      few = omega (arith, ap length pairs, written-length ws, l.head.few);
      fits = subst (λ (xs : List ℕ). length xs ≤ room) (sym kept) h;
    } in
    pooling-done ws ws room none none passes ∙ ap (λ (xs : List ℕ). done (length xs ∷ []) xs) kept

-- where two lists are pooled, the order of the two does not matter
pub pool-turned : (ws vs : List ℕ) → IsAccepted ws → IsAccepted vs → (room : ℕ) → BothPassed ws vs room → pooling vs ws room ≡ pooling ws vs room
pool-turned ws vs a b room p =
    let u = (accepted→none ws a).none in
    let v = (accepted→none vs b).none in
    let chip : OneChip ws vs = record { first = list-in ws u; second = list-in vs v; registers_are = p.registers_are; needs_are = p.needs_are } in
    let kept = pooled-turned ws vs chip in
    let passes : BothPassed vs ws room = record {
      registers_are = sym p.registers_are;
      needs_are = (turned-chip chip).needs_are;
      few = omega (arith, p.few, ap length (pairs-turned ws vs chip));
      fits = subst (λ (xs : List ℕ). length xs ≤ room) (sym kept) p.fits;
    } in
    pooling-done vs ws room v u passes ∙ ap (λ (xs : List ℕ). done (length xs ∷ []) xs) kept ∙ sym (pooling-done ws vs room u v p)

-- what is promised of two lists is promised where they are lent anew
pub pooled-lent : {s s' t t' : Bor (List ℕ)} {was now : List ℕ} {r : Pooling} → s ≡ s' → t ≡ t' → PooledAs s.now t.now was now r
    → PooledAs s'.now t'.now was now r
pooled-lent e f h = rw (e, f) at h
