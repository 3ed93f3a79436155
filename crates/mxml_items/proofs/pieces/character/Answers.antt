use Rattle.std.proofs.Common.{arith}
use Rattle.mxml_items.proofs.References.{too_great}
use Rattle.mxml_items.proofs.pieces.character.Goals as goal

pub returns-then-number-gt1114111 : goal.returns-then-number-gt1114111
returns-then-number-gt1114111 c =
    too_great c.args.base c.args.digits.now c.loop-digit.digit-index c.loop-digit.number 0 c.requires.low (omega arith) c.loop-digit.invariant.0 (omega (arith, c.digit_value.ensures.is))
