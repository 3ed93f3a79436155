use Rattle.std.proofs.Common.{◌≡◌, Some, drop}
use Rattle.avm2_machine.specs.Stage.{walked}
use Rattle.avm2_machine.proofs.stage.Stage.walk.Given as goal

abbrev pub invariant-loop-name : goal.invariant-loop-name
invariant-loop-name l = walked l.self (Some l.object) (drop l.name-index l.path) ≡ walked l.self (Some l.fn.from) l.path
