-- `put_checked`: one law for each answer of the check: refused, no pairs, admissible, or the first pair that breaks a rule.
use Rattle.check_text.proofs.CheckTextLaws.{said-refused, said-none, met-in, said-met, broken-in, lowest-in, said-broken}
use mathlib.Core.Path.{◌∙◌, ap}
use Rattle.std.specs.Prelude.{Ok}
use borrow.Author.Rules.{rules}
use Rattle.check_text.proofs.put_checked.Goals as goal

pub put_admissible-requires : goal.put_admissible-requires
put_admissible-requires c = record {
  pair_in = met-in c.check.ensures (c.in-Ok.is ∙ ap Ok c.in-Admissible.is);
  text_places_in_bounds = search rules;
}

pub put_failed-requires : goal.put_failed-requires
put_failed-requires c =
    let job = c.check.ensures in
    let is = (c.in-Ok.is ∙ ap Ok c.in-Broken.is) in
    record {
      pair_in = broken-in job is;
      pair_in_2 = lowest-in job is;
      text_places_in_bounds = search rules;
    }

pub returns-in-Err : goal.returns-in-Err
returns-in-Err c =
    said-refused c.check.ensures c.in-Err.is c.put_refused_check-size.ensures

pub returns-in-NoPairs : goal.returns-in-NoPairs
returns-in-NoPairs c =
    said-none c.check.ensures (c.in-Ok.is ∙ ap Ok c.in-NoPairs.is) c.put_bytes.ensures

pub returns-in-Admissible : goal.returns-in-Admissible
returns-in-Admissible c =
    said-met c.check.ensures (c.in-Ok.is ∙ ap Ok c.in-Admissible.is) c.put_admissible.ensures

pub returns-in-Broken : goal.returns-in-Broken
returns-in-Broken c =
    said-broken c.check.ensures (c.in-Ok.is ∙ ap Ok c.in-Broken.is) c.put_failed.ensures
