use Rattle.std.proofs.Common.{◌≡◌, ◌++◌, ◌-◌, length}
use Rattle.flex_base.specs.Events.{outward}
use Rattle.avm2_machine.specs.Stage.{parent, outer}
use Rattle.avm2_machine.proofs.stage.Stage.outer.Given as goal

abbrev pub invariant-loop : goal.invariant-loop
invariant-loop l = l.ancestors ++ outward (parent l.self) (length l.self.objects - l.counter) l.next ≡ outer l.self l.fn.object
