-- `put_place`: line and column, each after its name, and the byte.
use Rattle.text_pieces.proofs.PutLaws.{put_then}
use Rattle.refusal_text.specs.RefusalText.{place_words}
use Rattle.refusal_text.proofs.put_place.Goals as goal

pub returns : goal.returns
unfolding place_words
returns c = put_then c.put_named-a.ensures (put_then c.put_named-b.ensures c.put_byte_name.ensures)
