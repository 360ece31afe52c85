-- What one more write took follows what was written before.
use Rattle.std.proofs.Common.{◌++◌, rules, take, sym, ap, ◌∙◌, subst}
use Rattle.std.proofs.lemmas.List.{take_rest}
use Rattle.std.specs.Io.KnownBytes.{Appends}
use Rattle.std.proofs.KnownBytes.{Appends-trans}
use lib.Seq.{take-add}
use Rattle.streams.proofs.write_all.Goals as goal

pub loop-done-preserved : goal.loop-done-preserved
loop-done-preserved g c =
    let bytes = c.args.bytes.now in
    let from = c.loop-done.done in
    let more = c.in_ok-done.field-0 in
    let joined = ap (λ l. take from bytes ++ take more l) (take_rest bytes from) ∙ sym (take-add from more bytes) in
    (search rules, subst (Appends _ _) joined (Appends-trans _ _ _ _ _ c.loop-done.invariant.1 c.in_ok-done.ensures.bytes))
