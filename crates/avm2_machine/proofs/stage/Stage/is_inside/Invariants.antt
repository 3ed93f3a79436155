use Rattle.std.proofs.Common.{◌≡◌, ◌-◌, length}
use Rattle.std.specs.List.{list_any}
use Rattle.flex_base.specs.Events.{outward}
use Rattle.flex_base.specs.Value.{is_object}
use Rattle.avm2_machine.specs.Stage.{parent, outer}
use Rattle.avm2_machine.proofs.stage.Stage.is_inside.Given as goal

abbrev pub invariant-loop : goal.invariant-loop
invariant-loop l =
    list_any (is_object l.ancestor) (outward (parent l.self) (length l.self.objects - l.counter) l.next) ≡ list_any (is_object l.ancestor) (outer l.self l.fn.object)
