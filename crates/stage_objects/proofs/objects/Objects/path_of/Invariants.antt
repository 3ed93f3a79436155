use Rattle.std.proofs.Common.{◌≡◌, ◌++◌, ◌-◌, length}
use Rattle.flex_base.specs.Events.{outward}
use Rattle.stage_objects.specs.Tree.{path_in}
use Rattle.stage_objects.specs.Entities.{objects_in}
use Rattle.stage_objects.proofs.Places.{parents}
use Rattle.stage_objects.proofs.objects.Objects.path_of.Given as goal

-- the objects so far, and those that are still outside them
abbrev pub invariant-loop : goal.invariant-loop
invariant-loop l = l.path ++ outward (parents l.self) (length (objects_in l.self) - l.counter) l.next ≡ path_in l.fn.target l.self
