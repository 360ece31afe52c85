-- `put_why`: a refusal, a period that works, and one that is blocked, each with its text.
use mathlib.Core.Path.{◌≡◌, ◌∙◌, ap}
use Rattle.std.specs.Prelude.{Ok}
use native.Mathlib.Omega.{arith}
use lib.ListN.{length}
use Rattle.why_text.specs.WhyText.{step_places}
use Rattle.why_text.proofs.WhyTextLaws.{blocked-shown, blocked-fits, why-refused, why-workable, why-blocked}
use borrow.Author.Rules.{rules}
use Rattle.why_text.proofs.put_why.Goals as goal

pub put_blocked-requires : goal.put_blocked-requires
put_blocked-requires c =
    let size : length c.why_not.new.answer ≡ step_places = c.why_not.auto.answer in
    let is = (c.in-Ok.is ∙ ap Ok c.in-Some.is) in
    record {
      shown_in = blocked-shown c.why_not.ensures is;
      second_in_bounds = omega (arith, size, blocked-fits c.why_not.ensures is);
      why_places_in_bounds = search rules;
    }

pub returns-in-Err : goal.returns-in-Err
returns-in-Err c =
    why-refused c.why_not.ensures c.in-Err.is c.put_refused_why-size.ensures

pub returns-in-None : goal.returns-in-None
returns-in-None c =
    why-workable c.why_not.ensures (c.in-Ok.is ∙ ap Ok c.in-None.is) c.put_bytes.ensures

pub returns-in-Some : goal.returns-in-Some
returns-in-Some c =
    why-blocked c.why_not.ensures (c.in-Ok.is ∙ ap Ok c.in-Some.is) c.put_blocked.ensures
