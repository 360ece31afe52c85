-- `apply`: where its flag is 1, what a row's choice forces is followed from launch to capture, then from capture to launch:
-- at each end the opposite of its own choice, by the other end's; the two steps make one (`applied`).
use mathlib.Core.Path.{◌∙◌}
use Rattle.split_laws.proofs.MarkLaws.{applied, max-joined}
use Rattle.marks.proofs.apply.Goals as goal

pub returns : goal.returns
returns c =
    let a = c.args in
    applied a.a a.b a.k c.requires.2 c.launch_choice-launch.ensures c.capture_choice-capture.ensures
    c.opposite-2.ensures c.opposite.ensures c.if-flag-ne1.false (c.max.ensures ∙ max-joined c.follow-first.result c.follow-second.result)
    c.follow-first.ensures c.follow-second.ensures
