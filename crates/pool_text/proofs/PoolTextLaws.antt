-- From what pooling promises to the bytes that are stored.
use Prim.Native.Nat.{ℕ}
use mathlib.Core.List.{List}
use mathlib.Core.Path.{◌≡◌}
use native.Mathlib.Omega.{arith}
use Rattle.buffers.specs.Over.{zeros}
use Rattle.buffers.proofs.PadLaws.{zeros-size}
use Rattle.refusals.specs.Reply.{refusal, numbers, Outcome, refused, done, reply_of, buffer_after}
use Rattle.refusals.proofs.ReplyLaws.{told-refusal}
use Rattle.pooling.specs.Pool.{Pooling, number_of_part, list_refusal, list_numbers, of_list, pooled, pool_checks, pooling, refused_list, pool_reply, PooledAs}
use Rattle.std.specs.Prelude.{Ok, Err}
use Rattle.refusals.specs.Checks.{number_of}
use Rattle.text_pieces.specs.Saying.{trouble_of}
use Rattle.pooling.specs.declared.PoolRefused.{PoolRefused}
use Rattle.text_pieces.specs.Pieces.{Put}
use Rattle.list_bytes.specs.ListBytes.{max_words}
use Rattle.refusal_text.specs.RefusalText.{line_width}
use Rattle.convert_text.specs.ConvertText.{MadeAs, made_done}
use Rattle.convert_text.proofs.ConvertTextLaws.{made_fault}
use Rattle.pool_text.specs.PoolText.{refusal_line_of, not_pooled, pooled_from}
use Rattle.pool_text.proofs.MadeLaws.{Stored}

-- a refusal that says a list is that of the outcome, with the list given
of-refused : (k : ℕ) (o : Outcome) {list number place : ℕ} → list_refusal list number place ≡ of_list k (reply_of o)
    → (list ≡ k) × (refusal number place ≡ reply_of o)
unfolding of_list reply_of
of-refused k (refused number place) e = (cc, cc)
of-refused k (done returned stored) e =
    let z : ◌≡◌ {A = ℕ} 0 1 = cc in
    absurd (omega arith)

-- numbers are those of the outcome
of-numbers : (k : ℕ) (o : Outcome) {xs : List ℕ} → list_numbers xs ≡ of_list k (reply_of o) → numbers xs ≡ reply_of o
unfolding of_list reply_of
of-numbers k (refused number place) e =
    let z : ◌≡◌ {A = ℕ} 0 1 = cc in
    absurd (omega arith)
of-numbers k (done returned stored) e = cc

module _ {ws vs now : List ℕ} {r : Pooling} (a : PooledAs ws vs (zeros max_words) now r) where
  answer : pool_reply r ≡ of_list (refused_list ws vs) (reply_of (pooling ws vs max_words))
  answer = rw (zeros-size max_words) at a.reply

  buffer : now ≡ buffer_after (pooling ws vs max_words) (zeros max_words)
  buffer = rw (zeros-size max_words) at a.stored

  pub pool-refused : {why : PoolRefused} {next : ℕ} {out out' : List ℕ} → r ≡ Err why
      → Put line_width (refusal_line_of (number_of_part why.«of») (number_of why.refused.refusal) why.refused.place) out 0 out' next
      → MadeAs (pooled_from ws vs) out out' (Err (trouble_of next))
  unfolding pool_reply
  pool-refused e put =
      let both = of-refused (refused_list ws vs) (pooling ws vs max_words) (rw e at answer) in
      rw (told-refusal (not_pooled (refused_list ws vs)) made_done (pooling ws vs max_words) both.1, ← both.0) (made_fault put)

  pub pool-stored : {count : ℕ} → r ≡ Ok count → Stored (pool_checks ws vs max_words) (pooled ws vs) now count
  unfolding pool_reply pooling
  pool-stored e = record { given = of-numbers (refused_list ws vs) (pooling ws vs max_words) (rw e at answer); stored = buffer }
