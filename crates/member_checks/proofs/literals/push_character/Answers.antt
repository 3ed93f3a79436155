-- By the number's size.
use Rattle.std.proofs.Common.{arith}
use Rattle.member_checks.proofs.Spelled.{four_bytes, three_bytes, two_bytes}
use Rattle.member_checks.proofs.literals.push_character.Goals as goal

pub returns-then-number-lt2048 : goal.returns-then-number-lt2048
returns-then-number-lt2048 c =
    grind (arith, c.extend.ensures.ok, c.continuing-last.ensures, two_bytes c.args.number c.if-number-lt128.false c.if-number-lt2048.true)

pub returns-then-number-lt65536 : goal.returns-then-number-lt65536
returns-then-number-lt65536 c = grind (arith, c.extend-then-number-lt65536.ensures.ok, c.continuing-last.ensures, c.continuing-third.ensures, three_bytes c.args.number c.if-number-lt2048.false c.if-number-lt65536.true)

pub returns : goal.returns
returns c = grind (arith, c.extend-2.ensures.ok, c.continuing-last.ensures, c.continuing-third.ensures, c.continuing-second.ensures, four_bytes c.args.number c.if-number-lt65536.false)
