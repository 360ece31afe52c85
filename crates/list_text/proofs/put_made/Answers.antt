-- `put_made`: numbers that make no list give the line of the refusal; any others, the bytes of their list, converted.
use Rattle.list_text.proofs.ListTextLaws.{written-room, written-size, make-refused, make-written}
use Rattle.list_text.proofs.put_made.Goals as goal

pub slice_bounds-words-end : goal.slice_bounds-words-end
slice_bounds-words-end c = written-room c.write_stored.ensures c.in-Ok.is

pub slice_bounds-put_converted-end : goal.slice_bounds-put_converted-end
slice_bounds-put_converted-end c = written-size c.write_stored.ensures c.in-Ok.is

pub returns-in-Err : goal.returns-in-Err
returns-in-Err c =
    make-refused c.write_stored.ensures c.args.text.now c.args.needs c.in-Err.is
    c.put_refused-size.ensures

pub returns-in-Ok : goal.returns-in-Ok
returns-in-Ok c =
    make-written c.write_stored.ensures c.in-Ok.is c.args.text.now c.args.needs
    c.put_converted.ensures
