-- `put_pooled`: lists that are refused give the line of the refusal; any other, the bytes of the pooled list.
use Rattle.std.proofs.Common.{rules}
use Rattle.pooling.specs.Pool.{pooling}
use Rattle.pool_text.proofs.MadeLaws.{stored-room, stored-lent, stored-made}
use Rattle.pool_text.proofs.PoolTextLaws.{pool-refused, pool-stored}
use Rattle.pool_text.proofs.put_pooled.Goals as goal

pub slice_bounds-pooled-end : goal.slice_bounds-pooled-end
slice_bounds-pooled-end c = stored-room (pool-stored c.pool.ensures c.in-Ok.is)

pub slice_bounds-put_words-end : goal.slice_bounds-put_words-end
slice_bounds-put_words-end c = stored-lent (pool-stored c.pool.ensures c.in-Ok.is)

pub returns-in-Err : goal.returns-in-Err
returns-in-Err c = pool-refused c.pool.ensures c.in-Err.is c.tell_refusal_of-size.ensures

pub returns-in-Ok : goal.returns-in-Ok
unfolding pooling
returns-in-Ok c =
    let s = pool-stored c.pool.ensures c.in-Ok.is in
    stored-made s _ (search rules) c.put_words.ensures
