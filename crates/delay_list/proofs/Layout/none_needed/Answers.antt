-- `none_needed`: all needs are 0, unless one is found that is not.
-- Invariant `NoneTo`: those of the first r registers are 0.
use Rattle.std.proofs.Common.{sym, ◌∙◌, arith}
use Rattle.list_format.proofs.NeedsLaws.{none-start, none-turn, none_end, found-hold, found-setup}
use Rattle.delay_list.proofs.Layout.none_needed.Goals as goal

pub loop-r-init : goal.loop-r-init
loop-r-init c = none-start _ c.args.self.counted

pub returns-then-hold-ne0 : goal.returns-then-hold-ne0
returns-then-hold-ne0 c =
    found-hold c.args.self.words.now c.args.self.counted (omega arith) (λ e. c.if-hold-ne0.true (c.hold.ensures ∙ e))

pub returns-then-setup-ne0 : goal.returns-then-setup-ne0
returns-then-setup-ne0 c =
    found-setup c.args.self.words.now c.args.self.counted (omega arith) (λ e. c.if-setup-ne0.true (c.setup.ensures ∙ e))

pub loop-r-preserved : goal.loop-r-preserved
loop-r-preserved c =
    let at = c.loop-r in
    none-turn c.args.self.words.now c.args.self.counted (omega arith) at.invariant
    (sym c.hold.ensures ∙ c.if-hold-ne0.false) (sym c.setup.ensures ∙ c.if-setup-ne0.false)

pub returns : goal.returns
returns c =
    none_end c.args.self.words.now c.args.self.counted c.requires c.loop-r.invariant (omega arith)
