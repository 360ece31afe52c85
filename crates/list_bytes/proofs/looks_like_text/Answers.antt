-- `looks_like_text`: by the first byte, the count, the seventh and the eighth byte.
use Rattle.std.proofs.Common.{ap, not}
use borrow.Author.Tests.{lt-ltb, lt-leb}
use Rattle.list_bytes.proofs.TextLaws.{not-begun, begun-short, as_a_list, by-eighth}
use Rattle.list_bytes.proofs.looks_like_text.Goals as goal

pub returns-then-not-is_text_byte : goal.returns-then-not-is_text_byte
returns-then-not-is_text_byte c = not-begun _ c.byte_at.ensures c.is_text_byte.ensures (ap not c.if-not-is_text_byte.true)

pub returns-then-bytes-lt8 : goal.returns-then-bytes-lt8
returns-then-bytes-lt8 c =
    rw (lt-ltb _ 8 c.if-bytes-lt8.true)
    (begun-short _ c.byte_at.ensures c.is_text_byte.ensures (ap not c.if-not-is_text_byte.false) c.if-bytes-lt8.true)

pub returns-else-byte_at-ge9 : goal.returns-else-byte_at-ge9
returns-else-byte_at-ge9 c =
    rw (lt-leb 9 _ c.if-byte_at-ge9.false)
    (as_a_list _ c.byte_at.ensures c.is_text_byte.ensures (ap not c.if-not-is_text_byte.false) c.if-bytes-lt8.false
    c.byte_at-else-bytes-lt8.ensures c.if-byte_at-ge9.false)

pub returns-then-byte_at-ge9 : goal.returns-then-byte_at-ge9
returns-then-byte_at-ge9 c =
    by-eighth _ c.byte_at.ensures c.is_text_byte.ensures (ap not c.if-not-is_text_byte.false) c.if-bytes-lt8.false
    c.byte_at-else-bytes-lt8.ensures c.if-byte_at-ge9.true c.byte_at-then-byte_at-ge9.ensures
