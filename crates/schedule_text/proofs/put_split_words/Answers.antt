-- `put_split_words`: a refusal, no split, and the timings of the first split, each with its text.
use mathlib.Core.Path.{◌∙◌, ap}
use native.Mathlib.Omega.{arith}
use Rattle.std.specs.Prelude.{Ok}
use Rattle.schedule_text.proofs.ScheduleTextLaws.{split-in, split-refused, split-none, split-found}
use Rattle.schedule_text.proofs.put_split_words.Goals as goal

pub bounds-words-0 : goal.bounds-words-0
bounds-words-0 c =
    omega (arith, (split-in c.split.ensures (c.in-Ok.is ∙ ap Ok c.if-not-works.false)).size)

pub returns-in-Err : goal.returns-in-Err
returns-in-Err c =
    split-refused c.split.ensures c.in-Err.is c.put_refused_split-size.ensures

pub returns-then-not-works : goal.returns-then-not-works
returns-then-not-works c =
    split-none c.split.ensures (c.in-Ok.is ∙ ap Ok c.if-not-works.true) c.put_bytes.ensures

pub returns-else-not-works : goal.returns-else-not-works
returns-else-not-works c =
    split-found c.split.ensures (c.in-Ok.is ∙ ap Ok c.if-not-works.false) c.head_registers-n.ensures c.put_split.ensures
