-- `put_converted`: a list that is refused gives the line of the refusal; any other, the bytes of the converted list.
use Rattle.convert_text.proofs.ConvertTextLaws.{convert-refused, converted-room, converted-lent, convert-done}
use Rattle.convert_text.proofs.put_converted.Goals as goal

pub slice_bounds-converted-end : goal.slice_bounds-converted-end
slice_bounds-converted-end c = converted-room c.convert.ensures c.in-Ok.is

pub slice_bounds-put_words-end : goal.slice_bounds-put_words-end
slice_bounds-put_words-end c = converted-lent c.convert.ensures c.in-Ok.is

pub returns-in-Err : goal.returns-in-Err
returns-in-Err c =
    convert-refused c.convert.ensures c.in-Err.is c.tell_refusal-size.ensures

pub returns-in-Ok : goal.returns-in-Ok
returns-in-Ok c =
    convert-done c.convert.ensures c.in-Ok.is c.put_words.ensures
