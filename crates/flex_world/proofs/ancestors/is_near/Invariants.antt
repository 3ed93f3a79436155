use Rattle.std.proofs.Common.{◌≡◌}
use Rattle.flex_world.proofs.Upward.{is_above}
use Rattle.flex_world.proofs.ancestors.is_near.Given as goal

abbrev pub invariant-loop-left : goal.invariant-loop-left
invariant-loop-left l = is_above l.fn.bases l.fn.wanted 4 l.fn.from ≡ is_above l.fn.bases l.fn.wanted l.left l.level

abbrev pub decreases-loop-left : goal.decreases-loop-left
decreases-loop-left l = l.left
