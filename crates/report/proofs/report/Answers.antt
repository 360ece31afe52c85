-- `report`: the words of the bytes (`load`), and then the text of their plan.
use Rattle.list_bytes.proofs.LoadLaws.{loaded-front}
use Rattle.report.specs.Report.{report}
use Rattle.report.proofs.report.Goals as goal

pub returns : goal.returns
unfolding report
returns c = rw (loaded-front _ c.load-count.ensures) at c.put_text.ensures
