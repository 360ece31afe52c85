-- `put_byte_name`: a byte after its name, or the end.
use Rattle.std.proofs.Common.{arith}
use borrow.Author.Tests.{lt-ltb, le-ltb}
use Rattle.text_pieces.proofs.PutLaws.{put-within}
use Rattle.refusal_text.specs.RefusalText.{byte_words}
use Rattle.refusal_text.proofs.put_byte_name.Goals as goal

pub returns-then-byte-lt256 : goal.returns-then-byte-lt256
unfolding byte_words
returns-then-byte-lt256 c = rw (lt-ltb c.args.byte 256 c.if-byte-lt256.true) c.put_named.ensures

pub returns : goal.returns
unfolding byte_words
returns c = rw (le-ltb c.args.byte 256 c.if-byte-lt256.false) (put-within c.put_bytes.ensures (omega arith))
