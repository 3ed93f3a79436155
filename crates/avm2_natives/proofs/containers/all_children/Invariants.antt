use Rattle.std.proofs.Common.{◌≡◌, ◌≤◌, length}
use Rattle.std.specs.Prelude.{drop}
use Rattle.avm2_natives.proofs.containers.all_children.Given as goal

abbrev pub invariant-loop-left : goal.invariant-loop-left
invariant-loop-left l = (l.stack ≡ drop l.left l.fn.children) × (l.left ≤ length l.fn.children)

abbrev pub decreases-loop-left : goal.decreases-loop-left
decreases-loop-left l = l.left
