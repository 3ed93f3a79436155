use Rattle.std.proofs.Common.{◌≡◌, ◌-◌, length}
use Rattle.std.specs.List.{list_any}
use Rattle.flex_base.specs.Events.{outward}
use Rattle.flex_base.specs.Value.{is_object}
use Rattle.stage_objects.specs.Tree.{path_in}
use Rattle.stage_objects.specs.Entities.{objects_in}
use Rattle.stage_objects.proofs.Places.{parents}
use Rattle.stage_objects.proofs.objects.Objects.holds.Given as goal

-- those that are still outside
abbrev pub invariant-loop : goal.invariant-loop
invariant-loop l =
    list_any (is_object l.holder) (outward (parents l.self) (length (objects_in l.self) - l.counter) l.next) ≡ list_any (is_object l.holder) (path_in l.fn.object l.self)
