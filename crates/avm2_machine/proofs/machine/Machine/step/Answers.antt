use Rattle.std.proofs.Common.{rules, ◌≡◌, IfOk}
use Rattle.avm2_machine.specs.Machine.{moved, step}
use Rattle.avm2_machine.proofs.Progress.{moved_lowers}
use Rattle.avm2_machine.proofs.machine.Machine.step.Goals as goal

pub returns-in-None-clause-lowers : goal.returns-in-None-clause-lowers
returns-in-None-clause-lowers c =
    let is : IfOk c.load_next.result (λ item. moved c.load_next.new.self item ≡ step c.args.abc.now c.args.main.now c.args.self.now) = search rules in
    moved_lowers c.args.abc.now c.args.main.now c.args.self.now _ _ is

pub returns-in-Some-clause-lowers : goal.returns-in-Some-clause-lowers
returns-in-Some-clause-lowers c =
    let is : IfOk c.go_on.result (λ item. moved c.go_on.new.self item ≡ step c.args.abc.now c.args.main.now c.args.self.now) = search rules in
    moved_lowers c.args.abc.now c.args.main.now c.args.self.now _ _ is
