-- `none_needed`: each need is looked at (`all-zero`).
use Rattle.std.proofs.Common.{◌∙◌, rules, eqb}
use Rattle.std.proofs.lemmas.Iterator.{YieldsList-from_slice}
use Rattle.std.proofs.lemmas.Iterator.Search.{all_from_yields_List}
use Rattle.list_format.proofs.NeedsLaws.{all-zero}
use Rattle.write_list.proofs.none_needed.Goals as goal

pub returns : goal.returns
returns c =
    all_from_yields_List (λ x. eqb x 0) _ _ _ c.all.ensures.ran (YieldsList-from_slice c.args.needs.now cc) (λ x b q k. search rules)
    ∙ all-zero c.args.needs.now
