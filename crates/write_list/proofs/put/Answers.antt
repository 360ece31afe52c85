-- `put`: the three words of a pair stand from `at` on; three stores make one stretch.
use native.Mathlib.Numerals.{add-one, add-two}
use native.Mathlib.Omega.{arith}
use Rattle.buffers.proofs.FillLaws.{sets-put}
use Rattle.list_format.specs.Write.{three_of}
use Rattle.write_list.proofs.put.Goals as goal

pub returns : goal.returns
returns c =
    let a = c.args in
    rw (c.word-2.ensures, c.word.ensures, c.pair_word.ensures, add-one, add-two)
    (sets-put (three_of a.p) a.answer.now a.at (omega arith))
