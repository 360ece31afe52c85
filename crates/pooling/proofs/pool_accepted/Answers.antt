-- Everything is decided before the first word is stored.
use Rattle.std.proofs.Common.{◌≡◌, sym, ◌∙◌, arith, rules, length}
use Rattle.std.specs.Prelude.{Err}
use Rattle.list_format.proofs.ListLaws.{accepted-in}
use Rattle.list_format.proofs.NeedsLaws.{needs-few}
use Rattle.relist.proofs.RelistLaws.{relisted-size}
use Rattle.merging.specs.Merge.{pooled_pairs}
use Rattle.pooling.proofs.CallLaws.{both-passed, part-refused, part-passed, pool-refused, pool-done}
use Rattle.pooling.specs.declared.PoolPart.TheVariants.{Call}
use Rattle.pooling.proofs.pool_accepted.Goals as goal

pub pair_place-places-requires : goal.pair_place-places-requires
pair_place-places-requires c = (omega (arith, c.args.first.counted, needs-few c.args.first.words.now), c.count_pooled-count.ensures.1)

pub overflow_add-places : goal.overflow_add-places
overflow_add-places c =
    let few = needs-few c.args.first.words.now in
    record { fits = omega (arith, c.pair_place-places.ensures, c.count_pooled-count.ensures.1, c.args.first.counted, few) }

pub both_fault-found-requires : goal.both_fault-found-requires
both_fault-found-requires c =
    let ws = c.args.first.words.now in
    let vs = c.args.second.words.now in
    let count = c.count_pooled-count.ensures.0 in
    record {
      first = c.requires.0.0;
      second = c.requires.1.0;
      registers_are = c.requires.0.1;
      others_are = c.requires.1.1;
      count_is = count;
      places_are = omega (
        arith,
        c.pair_place-places.ensures,
        count,
        c.args.first.counted,
        relisted-size ws (accepted-in ws c.requires.0.0) (pooled_pairs ws vs),
      );
    }

pub put_pooled-requires : goal.put_pooled-requires
put_pooled-requires c =
    let ws = c.args.first.words.now in
    let vs = c.args.second.words.now in
    let p = both-passed ws vs (length c.args.answer.now)
    (sym c.both_fault-found.ensures ∙ part-passed Call c.both_fault-found.result c.of.ensures c.in_ok-of.was) in
    let count = c.count_pooled-count.ensures.0 in
    let needed = c.args.first.counted in (
      c.requires.0.1,
      record {
        first = c.requires.0.0;
        second = c.requires.1.0;
        same = p.registers_are;
        needed = p.needs_are;
        needs_are = needed;
        count_is = count;
        few = omega (arith, count, p.few);
        places = omega (arith, count, needed, p.fits, relisted-size ws (accepted-in ws c.requires.0.0) (pooled_pairs ws vs));
      },
    )

pub returns-in_err-of : goal.returns-in_err-of
returns-in_err-of c =
    let call = part-refused Call c.both_fault-found.result c.of.ensures c.in_err-of.was in
    let is : c.from_residual.result ≡ Err c.in_err-of.field-0.0 = search rules in
    rw (is, call.told)
    (pool-refused c.args.first.words.now c.args.second.words.now c.args.answer.now c.requires.0.0 c.requires.1.0 (sym c.both_fault-found.ensures ∙ call.was))

pub returns : goal.returns
returns c =
    let ws = c.args.first.words.now in
    let vs = c.args.second.words.now in
    let none = sym c.both_fault-found.ensures ∙ part-passed Call c.both_fault-found.result c.of.ensures c.in_ok-of.was in
    let size = relisted-size ws (accepted-in ws c.requires.0.0) (pooled_pairs ws vs) in
    pool-done ws vs c.args.answer.now c.requires.0.0 c.requires.1.0 none _ _
    (omega (arith, size, c.pair_place-places.ensures, c.count_pooled-count.ensures.0, c.args.first.counted))
    c.put_pooled.ensures
