-- Four stores make one stretch.
use native.Mathlib.Numerals.{add-one, add-two, add-three}
use native.Mathlib.Omega.{arith}
use Rattle.buffers.proofs.FillLaws.{sets-put}
use Rattle.list_format.specs.Read.{four_of}
use Rattle.read_list.proofs.put.Goals as goal

pub returns : goal.returns
returns c = rw (add-one, add-two, add-three) (sets-put (four_of c.args.p) c.args.answer.now c.args.at (omega arith))
