-- `signed_word`: the bits of the number, read without a sign.
use Rattle.std.proofs.Common.{w64, ◌∙◌, ap, of_z}
use mir.ValLaws.{to_z-of_z}
use Rattle.words.proofs.SignedLaws.{bits_word}
use Rattle.words.proofs.signed.signed_word.Goals as goal

pub returns : goal.returns
returns c = c.cast_unsigned.ensures ∙ ap (of_z w64) (to_z-of_z w64 _ c.ranges.x) ∙ bits_word c.args.x
