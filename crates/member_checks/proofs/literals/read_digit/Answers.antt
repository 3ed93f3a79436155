-- One digit more.
use Rattle.std.proofs.Common.{◌<◌, arith, subst}
use Rattle.member_checks.specs.Rooms.{room}
use Rattle.member_checks.proofs.Spelled.{next_room}
use Rattle.member_checks.proofs.literals.read_digit.Goals as goal

pub push_character-requires : goal.push_character-requires
push_character-requires c =
    let few : c.args.digits.number < room 0 = subst (λ k. c.args.digits.number < room k) c.if-digits-eq0.true c.args.digits.few in
    omega (arith, few, c.digit_value.ensures.bound)

pub invariant_of-result : goal.invariant_of-result
invariant_of-result c =
    record { few = next_room c.args.digits.others c.args.digits.number c.digit_value.result c.args.digits.few c.if-digits-eq0.false c.digit_value.ensures.bound }
