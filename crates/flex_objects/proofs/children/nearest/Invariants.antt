use Rattle.std.proofs.Common.{◌≤◌, length}
use Rattle.flex_objects.proofs.children.nearest.Given as goal

abbrev pub invariant-loop-front : goal.invariant-loop-front
invariant-loop-front l = l.back ≤ length l.list.items

abbrev pub decreases-loop-front : goal.decreases-loop-front
decreases-loop-front l = l.back
