-- `load`: too many bytes or not four to a word make no words; else the words of the bytes are stored. One law for each.
use Rattle.list_bytes.proofs.LoadLaws.{list-long, list-odd, load-none, load-done}
use Rattle.list_bytes.proofs.load.Goals as goal

pub returns-then-size-gt-MAX_BYTES : goal.returns-then-size-gt-MAX_BYTES
returns-then-size-gt-MAX_BYTES c = load-none _ _ (list-long _ c.if-size-gt-MAX_BYTES.true)

pub returns-then-size-ne0 : goal.returns-then-size-ne0
returns-then-size-ne0 c = load-none _ _ (list-odd _ c.if-size-gt-MAX_BYTES.false c.if-size-ne0.true)

pub returns : goal.returns
returns c =
    load-done _ _ c.to_words.new.words c.if-size-gt-MAX_BYTES.false c.if-size-ne0.false c.to_words.ensures
