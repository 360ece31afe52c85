-- The pairs that are met are stored by the walk; the words that it lends back are copied after them, up to where the end word goes.
use Rattle.std.proofs.Common.{arith}
use Rattle.pooling.proofs.PutLaws.{front-needs, mergeable, unread-words, rest-size, part-size, part-put, rest_put}
use Rattle.pooling.proofs.put_pairs.Goals as goal

pub pair_place-place-requires : goal.pair_place-place-requires
pair_place-place-requires c = (omega (arith, front-needs c.requires), omega arith)

pub merge-rest-requires : goal.merge-rest-requires
merge-rest-requires c = mergeable c.requires c.pair_place-place.ensures

pub pair_place-end-requires : goal.pair_place-end-requires
pair_place-end-requires c = (omega (arith, front-needs c.requires), omega (arith, c.requires.few))

pub overflow_sub-end : goal.overflow_sub-end
overflow_sub-end c =
    let is = unread-words c.args.first.words c.args.second.words c.merge-rest.result c.merge-rest.ensures.0 in
    omega (arith, c.pair_place-end.ensures, rest-size c.args.answer.now c.requires is)

pub slice_bounds-copy_from_slice-end : goal.slice_bounds-copy_from_slice-end
slice_bounds-copy_from_slice-end c = omega (arith, c.pair_place-end.ensures, c.requires.places, c.merge-rest.auto.answer)

pub slice_bounds-copy_from_slice-count : goal.slice_bounds-copy_from_slice-count
slice_bounds-copy_from_slice-count c = omega arith

pub copy_from_slice-requires : goal.copy_from_slice-requires
copy_from_slice-requires c =
    let is = unread-words c.args.first.words c.args.second.words c.merge-rest.result c.merge-rest.ensures.0 in
    let size = rest-size c.args.answer.now c.requires is in
    part-size _ c.merge-rest.new.answer c.pair_place-end.result (omega (arith, c.pair_place-end.ensures, size))
    (omega (arith, c.pair_place-end.ensures, c.requires.places, c.merge-rest.auto.answer))

pub returns : goal.returns
returns c =
    let is = unread-words c.args.first.words c.args.second.words c.merge-rest.result c.merge-rest.ensures.0 in
    let size = rest-size c.args.answer.now c.requires is in
    rest_put c.args.answer.now c.requires is _ _ c.pair_place-place.ensures c.pair_place-end.ensures c.merge-rest.ensures.1
    (part-put _ _ c.merge-rest.result.now c.merge-rest.new.answer _ (omega (arith, c.pair_place-end.ensures, size)) c.copy_from_slice.ensures.after)
