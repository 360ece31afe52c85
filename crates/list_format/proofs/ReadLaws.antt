-- The three ways that reading can end, each with the whole promise.
use Prim.Native.Nat.{ℕ, ◌*◌, ◌<◌, ◌≤◌}
use mathlib.Core.Bool.{true}
use mathlib.Core.List.{List, [], ◌∷◌, ◌++◌, append_assoc}
use mathlib.Core.Path.{◌≡◌, ap, sym, ◌∙◌}
use native.Mathlib.Omega.{arith}
use lib.ListN.{length, take, drop}
use lib.Seq.{take_at, drop_at}
use borrow.Author.Tests.{lt-ltb, le-ltb}
use Rattle.buffers.specs.Over.{over}
use Rattle.refusals.specs.Reply.{refused, done, reply_of, buffer_after}
use Rattle.refusals.proofs.ReplyLaws.{one-fails, one_passes, first-refused, then-refused, then-done}
use Rattle.list_format.specs.Lists.{registers, pair_count, needs_of, list_checks, verdict, counts, accepted}
use Rattle.list_format.specs.Read.{numbers_of, read_places, reading, read_reply}
use Rattle.list_format.specs.Write.{writing}
use Rattle.list_format.specs.RoundTrip.{ReadAs}
use Rattle.list_format.proofs.ListLaws.{same-counts, refused→fault, accepted→none, list-in, list-ascends}
use Rattle.list_format.proofs.ReadBack.{numbers-length, read_back}
use Rattle.list_format.proofs.NeedsLaws.{needs-length}
use Rattle.std.specs.Prelude.{Ok, Err}
use Rattle.refusals.specs.Checks.{number_of, refused_at}
use Rattle.refusals.specs.declared.Refusal.TheVariants.{Room}
use Rattle.refusals.specs.declared.Refused.{Refused}

module _ (ws was : List ℕ) where
  -- a refusal changes nothing
  not-read : {r : Refused} → reading ws (length was) ≡ refused (number_of r.refusal) r.place → ReadAs ws was was (Err r)
  unfolding reply_of buffer_after read_reply
  not-read e =
      record {
        reply = rw e;
        stored = rw e;
        back = λ n m r. let z : ◌≡◌ {A = ℕ} 0 1 = cc in absurd (omega arith);
      }

  -- the list is refused
  pub read-refused : {r : Refused} → verdict ws ≡ Err r → ReadAs ws was was (Err r)
  unfolding reading
  read-refused v = not-read (first-refused (list_checks ws) _ _ (refused→fault ws v))

  module _ {n m : ℕ} (v : verdict ws ≡ accepted n m) where
    -- the buffer is too short
    pub read_short : length was < read_places n m → ReadAs ws was was (Err (refused_at Room 0))
    unfolding reading
    read_short h =
        let a = accepted→none ws v in
        let short : length was < read_places (registers ws) (pair_count ws) = omega (arith, a.list.pairs_are, a.list.registers_are) in
        not-read (then-refused (list_checks ws) _ _ a.none (one-fails (lt-ltb _ _ short)))

    -- the numbers are stored
    done-is : read_places n m ≤ length was → reading ws (length was) ≡ done (registers ws ∷ pair_count ws ∷ []) (numbers_of ws ++ needs_of ws)
    unfolding reading
    done-is h =
        let a = accepted→none ws v in
        let room : read_places (registers ws) (pair_count ws) ≤ length was = omega (arith, a.list.pairs_are, a.list.registers_are) in
        then-done (list_checks ws) _ _ a.none (one_passes Room 0 (le-ltb _ _ room))

    pub read_done : (now : List ℕ) → read_places n m ≤ length was → now ≡ over (numbers_of ws ++ needs_of ws) was → ReadAs ws was now (Ok (counts n m))
    unfolding reply_of buffer_after read_reply
    read_done now h s =
        let a = accepted→none ws v in
        record { reply = rw (done-is h, a.list.registers_are, a.list.pairs_are); stored = rw (done-is h) s; back = again }
      where
        again : (k l : ℕ) → accepted n m ≡ accepted k l → (room : ℕ) → length ws ≤ room
            → writing k (take (4 * l) now) (take (2 * k) (drop (4 * l) now)) room ≡ done (length ws ∷ []) ws
        again k l e room r =
            let a = accepted→none ws v in
            let same = same-counts e in
            let k-is : k ≡ registers ws = sym same.0 ∙ a.list.registers_are in
            let size : length (numbers_of ws) ≡ 4 * l = numbers-length ws ∙ ap (λ count. 4 * count) (sym a.list.pairs_are ∙ same.1) in
            let rest : List ℕ = drop (length (numbers_of ws ++ needs_of ws)) was in
            let whole : now ≡ numbers_of ws ++ (needs_of ws ++ rest) = s ∙ append_assoc (numbers_of ws) (needs_of ws) rest in
            rw (
              k-is,
              whole,
              take_at (numbers_of ws) _ (4 * l) size,
              drop_at (numbers_of ws) _ (4 * l) size,
              take_at (needs_of ws) rest (2 * registers ws) (needs-length ws),
            )
            (read_back ws (list-in ws a.none) true (λ e. list-ascends ws a.none) room r)
