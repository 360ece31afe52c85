-- All four tests of the word are met, so its checks pass.
use Rattle.std.proofs.Common.{◌≡◌, ℕ, ◌+◌, ◌≤◌, true, ◌&&◌, eqb, leb, sym, ◌∙◌, eqb-true, leb-true}
use Rattle.timing.specs.Limits.{max_need}
use Rattle.timing.proofs.RuleLaws.{and-true}
use Rattle.words.specs.Word.{kind_needs, kind_of}
use Rattle.list_format.specs.Lists.{word}
use Rattle.list_format.proofs.ListLaws.{need-pass}
use Rattle.delay_list.proofs.need_passes.Goals as goal

tested : (k s h u : ℕ) → ((eqb k kind_needs && eqb s 0) && leb h max_need) && leb u max_need ≡ true
    → (k ≡ kind_needs) × ((s ≡ 0) × ((h ≤ max_need) × (u ≤ max_need)))
tested k s h u e =
    let three = and-true _ _ e in
    let two = and-true _ _ three.0 in
    let one = and-true _ _ two.0 in
    (eqb-true _ _ one.0, (eqb-true _ _ one.1, (leb-true _ _ two.1, leb-true _ _ three.1)))

pub returns : goal.returns
returns c = λ e.
    let t = tested (kind_of (word c.args.words.now (1 + c.args.r))) c.needs_spare.result c.hold.result c.setup.result (rw c.is_of.ensures at e) in
    need-pass c.args.words.now c.args.r (record {
      kind = t.0;
      spare = sym c.needs_spare.ensures ∙ t.1.0;
      needs = record { hold = rw (sym c.hold.ensures) t.1.1.0; setup = rw (sym c.setup.ensures) t.1.1.1 };
    })
