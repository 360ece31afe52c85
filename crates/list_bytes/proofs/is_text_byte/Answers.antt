-- `is_text_byte`: below the digits, a digit, above them.
use borrow.Author.Tests.{lt-ltb, le-ltb, le-leb}
use Rattle.list_bytes.specs.ListBytes.{text_byte}
use Rattle.list_bytes.proofs.is_text_byte.Goals as goal

pub returns-then-byte-lt48 : goal.returns-then-byte-lt48
unfolding text_byte
returns-then-byte-lt48 c = rw (lt-ltb _ 48 c.if-byte-lt48.true) c.is_blank.ensures

pub returns-then-byte-le57 : goal.returns-then-byte-le57
unfolding text_byte
returns-then-byte-le57 c = rw (le-ltb _ _ c.if-byte-lt48.false, le-ltb _ _ c.if-byte-le57.true, le-leb _ _ c.if-byte-le57.true)

pub returns-else-byte-le57 : goal.returns-else-byte-le57
unfolding text_byte
returns-else-byte-le57 c = rw (le-ltb _ _ c.if-byte-lt48.false, lt-ltb 57 _ c.if-byte-le57.false)
