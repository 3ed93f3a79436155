use Rattle.std.proofs.Common.{◌≡◌, ◌+◌, ◌<◌, take, arith, ap, sym, ◌∙◌, pos, w64}
use Rattle.std.proofs.lemmas.Int.{to_z_pos}
use Rattle.std.proofs.lemmas.List.{take_all}
use Rattle.std.specs.Str.Parse.{digits_value}
use Rattle.flex_base.proofs.Digits.{part_below, digit_more}
use Rattle.flex_base.proofs.conversion.digits_value.Goals as goal

pub overflow_mul-number : goal.overflow_mul-number
overflow_mul-number c = let few = part_below c.args.digits.now c.loop-digit.digit-index c.requires.are_digits c.requires.few in omega (arith, few, c.loop-digit.invariant)

pub overflow_add-number : goal.overflow_add-number
overflow_add-number c =
    let few = part_below c.args.digits.now (c.loop-digit.digit-index + 1) c.requires.are_digits c.requires.few in
    let more = digit_more c.args.digits.now c.loop-digit.digit-index c.loop-digit.number c.from.result c.requires.are_digits c.loop-digit-test.true c.loop-digit.invariant c.from.ensures in
    omega (arith, few, more)

pub loop-digit-preserved : goal.loop-digit-preserved
loop-digit-preserved c = digit_more c.args.digits.now c.loop-digit.digit-index c.loop-digit.number c.from.result c.requires.are_digits c.loop-digit-test.true c.loop-digit.invariant c.from.ensures

pub overflow_cast-result : goal.overflow_cast-result
overflow_cast-result c = let few = part_below c.args.digits.now c.loop-digit.digit-index c.requires.are_digits c.requires.few in omega (arith, few, c.loop-digit.invariant)

pub returns : goal.returns
returns c =
    let few = part_below c.args.digits.now c.loop-digit.digit-index c.requires.are_digits c.requires.few in
    let all = take_all c.loop-digit.digit-index c.args.digits.now (omega arith) in
    to_z_pos w64 c.loop-digit.number (omega (arith, few, c.loop-digit.invariant)) ∙ ap pos (c.loop-digit.invariant ∙ ap (digits_value 10) all)
