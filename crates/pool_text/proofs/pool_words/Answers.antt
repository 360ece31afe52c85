-- `pool_words`: the numbers without a row mean what they mean of one list.
use Rattle.std.proofs.Common.{arith}
use mathlib.Core.Path.{sym, ◌∙◌}
use Rattle.refusal_text.specs.RefusalText.{meaning}
use Rattle.refusal_text.proofs.RefusalTextLaws.{are-others}
use Rattle.pool_text.specs.PoolText.{pool_meanings, pool_meaning}
use Rattle.pool_text.proofs.pool_words.Goals as goal

pub returns-in_default : goal.returns-in_default
unfolding pool_meaning
returns-in_default c =
    record {
      is = c.number_words.ensures.is ∙ sym (are-others pool_meanings meaning c.args.number (omega arith, (omega arith, tt)));
      short = c.number_words.ensures.short;
    }
