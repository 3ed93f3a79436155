use Rattle.std.proofs.Common.{rules, pos, ◌+ℤ◌}
use Rattle.avm2_program.proofs.Targets.{none_before}
use Rattle.avm2_program.proofs.branches.number_led_to.Goals as goal

pub returns-in-Err : goal.returns-in-Err
returns-in-Err c = none_before c.args.code.now (pos c.args.next +ℤ c.args.offset) (search rules)
