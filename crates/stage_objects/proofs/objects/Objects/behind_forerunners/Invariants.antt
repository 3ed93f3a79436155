use Rattle.std.proofs.Common.{◌≡◌, ◌≤◌, length, take}
use Rattle.flex_world.specs.Children.{behind}
use Rattle.stage_objects.specs.Entities.{objects_in}
use Rattle.stage_objects.proofs.objects.Objects.behind_forerunners.Given as goal

-- none of the children from the place on is a forerunner
abbrev pub invariant-loop-place : goal.invariant-loop-place
invariant-loop-place l = record {
  last : behind (objects_in l.self) l.spot 0 0 (take l.place l.children) ≡ behind (objects_in l.self) l.spot 0 0 l.children;
  within : l.place ≤ length l.children;
}

abbrev pub decreases-loop-place : goal.decreases-loop-place
decreases-loop-place l = l.place
