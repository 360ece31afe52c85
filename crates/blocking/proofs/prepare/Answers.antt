-- `prepare`: blank marks and the broken choices, then the forest (`made-ready`).
use Rattle.blocking.proofs.WhyLaws.{made-ready}
use Rattle.blocking.proofs.prepare.Goals as goal

pub returns : goal.returns
returns c =
    made-ready (rw (c.less-offset.ensures, c.common-common.ensures) at c.prepare.ensures) c.force_late.ensures
