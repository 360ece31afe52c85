-- `put_decimal`: what falls: the number, a tenth of it at each call.
use Rattle.text_pieces.proofs.+put_decimal.Given as goal

abbrev pub decreases-put_decimal : goal.decreases-put_decimal
decreases-put_decimal l = l.n
