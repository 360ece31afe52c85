-- `put_free`: the two periods in a line, and then the lines of the registers.
use native.Mathlib.Omega.{arith}
use Rattle.text_pieces.proofs.PutLaws.{put_then, put-within}
use Rattle.schedule_text.specs.ScheduleText.{free_line}
use Rattle.schedule_text.proofs.put_free.Goals as goal

pub returns : goal.returns
unfolding free_line
returns c =
    let put = put_then (put_then c.put_named-a.ensures c.put_named-b.ensures) c.put_timings.ensures in
    put-within put (omega (arith, put.most))
