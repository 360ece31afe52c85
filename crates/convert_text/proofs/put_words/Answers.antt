-- `put_words`: the bytes of all words are one piece from the first place on.
use native.Mathlib.Omega.{arith}
use Rattle.convert_text.proofs.ConvertTextLaws.{bytes-put}
use Rattle.convert_text.proofs.put_words.Goals as goal

pub returns : goal.returns
returns c =
    bytes-put c.args.words.now c.args.out.now _ (omega arith) c.to_bytes.ensures
