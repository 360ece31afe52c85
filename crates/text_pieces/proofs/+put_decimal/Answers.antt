-- `put_decimal`: a single digit, or the digits before the last and then the last (`put_first`, `put_last`).
use Rattle.std.proofs.Common.{◌≤◌, ◌-◌, ◌/◌, length, arith}
use Rattle.text_pieces.specs.Pieces.{max_digits, decimal}
use Rattle.text_pieces.proofs.PutLaws.{put-size}
use Rattle.text_pieces.proofs.DecimalLaws.{decimal-few, put_first, put_last}
use Rattle.text_pieces.proofs.+put_decimal.Goals as goal

pub returns-then-n-lt10 : goal.returns-then-n-lt10
returns-then-n-lt10 t c = put_first (omega arith) c.put_digit.ensures

pub put_digit-requires-2 : goal.put_digit-requires-2
put_digit-requires-2 t c =
    let few : length (decimal (c.args.n / 10)) ≤ max_digits - 1 = decimal-few 18 (c.args.n / 10) (omega arith) in
    (omega arith, omega (arith, put-size c.put_decimal-last.ensures, c.put_decimal-last.ensures.after))

pub returns : goal.returns
returns t c = put_last (omega arith) (omega arith) c.put_decimal-last.ensures c.put_digit-2.ensures
