use Rattle.std.proofs.Common.{◌≡◌, ◌+◌, length}
use Rattle.flex_world.proofs.Upward.{is_above}
use Rattle.flex_world.proofs.ancestors.is_above.Given as goal

abbrev pub invariant-loop-left : goal.invariant-loop-left
invariant-loop-left l = is_above l.fn.bases l.fn.wanted (length l.fn.bases + 4) l.fn.from ≡ is_above l.fn.bases l.fn.wanted (l.left + 4) l.level

abbrev pub decreases-loop-left : goal.decreases-loop-left
decreases-loop-left l = l.left
