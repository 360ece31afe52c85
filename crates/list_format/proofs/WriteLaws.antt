-- The ways that writing can end, each with the whole promise.
use Prim.Native.Nat.{ℕ, ◌+◌, ◌<◌, ◌≤◌}
use mathlib.Core.List.{List, [], ◌∷◌, ◌++◌}
use mathlib.Core.Path.{◌≡◌, refl, sym, ◌∙◌, ap}
use native.Mathlib.Omega.{arith}
use lib.ListN.{length, take, set}
use lib.Seq.{take_at}
use borrow.Author.Tests.{ltb-false}
use Rattle.words.specs.Word.{head_word, end_word, checksum}
use Rattle.buffers.specs.Run.{run}
use Rattle.buffers.specs.Over.{over}
use Rattle.buffers.proofs.FillLaws.{Filled, filled-size, filled_put, set-put, over-more}
use Rattle.refusals.specs.Checks.{first_fault, each_check, no_fault, Fault}
use Rattle.refusals.specs.Reply.{refused, done, reply_of, buffer_after, unless}
use Rattle.refusals.proofs.CheckLaws.{both-pass, passed}
use Rattle.refusals.proofs.ReplyLaws.{answered-refused, answered-done}
use Rattle.list_format.specs.Read.{reading}
use Rattle.list_format.specs.Write.{given_count, given_pair, given_needs, one_of, three_of, open_head, open_list, words_of, end_place}
use Rattle.list_format.specs.Write.{Writing, count_checks, given_need_checks, given_checks, given_pairs, given_body, write_checks}
use Rattle.list_format.specs.Write.{writing_by, write_reply, GivenIn}
use Rattle.list_format.specs.RoundTrip.{WrittenBy, WrittenAs}
use mathlib.Core.Bool.{Bool, true}
use Rattle.list_format.proofs.WriteBack.{given-in, given-rise, head-length, open-length, words-length, write-back}
use Rattle.std.specs.Prelude.{Ok, Err}
use Rattle.refusals.specs.declared.Refused.{Refused}

module _ (n : ℕ) (xs ys was : List ℕ) where
  -- the head with its words of needs, and then the pairs
  pub opened-is : GivenIn n xs ys → {count m : ℕ} → count ≡ given_needs n ys → m ≡ given_count xs → (head after : List ℕ)
      → head ≡ over (head_word n m ∷ run (one_of ys) count) was
      → after ≡ over (take (1 + count) head ++ run (λ k. three_of (given_pair xs k)) m) head → after ≡ over (open_list n xs ys (given_count xs)) was
  opened-is g {count} {m} c e head after h a =
      let front : head_word n m ∷ run (one_of ys) count ≡ open_head n xs ys = rw (c, e) in
      let first : head ≡ over (open_head n xs ys) was = h ∙ ap (λ ws. over ws was) front in
      a ∙ rw (c, e) (over-more (open_head n xs ys) (run (λ k. three_of (given_pair xs k)) (given_count xs)) was (head-length n xs ys g) first)

  -- the end word closes the list
  pub closed_is : GivenIn n xs ys → end_place n xs ys < length was → (opened after : List ℕ) → opened ≡ over (open_list n xs ys (given_count xs)) was
      → after ≡ set opened (end_place n xs ys) (end_word (checksum (take (end_place n xs ys) opened))) → after ≡ over (words_of n xs ys) was
  closed_is g h opened after o s =
      let at : ℕ = end_place n xs ys in
      let size = open-length n xs ys g in
      let f : Filled (open_list n xs ys (given_count xs)) was opened = record { room = omega (arith, size); is = o } in
      let front : take at opened ≡ open_list n xs ys (given_count xs) = rw o (take_at (open_list n xs ys (given_count xs)) _ at size) in
      let stored : after ≡ set opened at (end_word (checksum (open_list n xs ys (given_count xs)))) = rw front at s in
      (filled_put f (end_word (checksum (open_list n xs ys (given_count xs))) ∷ []) after (sym size) (omega arith)
      (stored ∙ set-put opened at _ (omega (arith, filled-size f)))).is

  -- ---- the order asked for or not

  module _ (asked : Bool) where
    -- a refusal changes nothing
    pub write-refused : {r : Refused} → first_fault (write_checks asked n xs ys (length was)) ≡ Err r
        → WrittenBy asked n xs ys was was (Err r)
    unfolding writing_by reply_of buffer_after write_reply
    write-refused e =
        let r : writing_by asked n xs ys (length was) ≡ refused _ _ = answered-refused (write_checks asked n xs ys (length was)) _ e in
        record { reply = rw r; stored = rw r }

    module _ (none : first_fault (write_checks asked n xs ys (length was)) ≡ no_fault) where
      -- there is room
      pub write-room : end_place n xs ys < length was
      write-room =
          let body = (both-pass (count_checks n (length xs) (length ys)) (given_body asked n xs ys (given_count xs) (length was)) none).1 in
          let rest = (both-pass (each_check (given_need_checks ys) 0 n) (given_pairs asked n xs ys (given_count xs) (length was)) body).1 in
          let room = (both-pass (each_check (given_checks asked n xs ys) 0 (given_count xs)) _ rest).1 in
          omega (arith, ltb-false (length was) (end_place n xs ys + 1) (passed _ room).0)

      -- the list is stored
      pub write_done : (now : List ℕ) (count : ℕ) → count ≡ end_place n xs ys + 1 → now ≡ over (words_of n xs ys) was
          → WrittenBy asked n xs ys was now (Ok count)
      unfolding writing_by reply_of buffer_after write_reply
      write_done now count c s =
          let checks = write_checks asked n xs ys (length was) in
          let d : writing_by asked n xs ys (length was) ≡ done ((end_place n xs ys + 1) ∷ []) (words_of n xs ys) = answered-done checks _ none in
          record { reply = rw (d, c); stored = rw d s }

  -- ---- what is written with the order asked for reads back

  written_back : (f : Fault) (now : List ℕ) (k : ℕ) → first_fault (write_checks true n xs ys (length was)) ≡ f
      → write_reply (Ok k) ≡ reply_of (unless f (done ((end_place n xs ys + 1) ∷ []) (words_of n xs ys)))
      → now ≡ buffer_after (unless f (done ((end_place n xs ys + 1) ∷ []) (words_of n xs ys))) was → (room : ℕ) → length xs + length ys ≤ room
      → reading (take k now) room ≡ done (n ∷ given_count xs ∷ []) (xs ++ ys)
  unfolding reply_of buffer_after write_reply unless
  written_back (Err why) now k e r s room h =
      let z : ◌≡◌ {A = ℕ} 0 1 = cc in
      absurd (omega arith)
  written_back (Ok u) now k e r s room h =
      let g = given-in true n xs ys (length was) e in
      let count : k ≡ end_place n xs ys + 1 = cc in
      let size : length (words_of n xs ys) ≡ k = words-length n xs ys g ∙ sym count in
      rw (s, take_at (words_of n xs ys) _ k size) (write-back n xs ys g (given-rise n xs ys (length was) e) room h)

  pub write-back-as : {now : List ℕ} {r : Writing} → WrittenBy true n xs ys was now r → WrittenAs n xs ys was now r
  unfolding writing_by
  write-back-as {now} {r} w = record { reply = w.reply; stored = w.stored; back = again }
    where
      again : (k : ℕ) → r ≡ Ok k → (room : ℕ) → length xs + length ys ≤ room
          → reading (take k now) room ≡ done (n ∷ given_count xs ∷ []) (xs ++ ys)
      again k e room h =
          written_back (first_fault (write_checks true n xs ys (length was))) now k refl (rw e at w.reply) w.stored room h
