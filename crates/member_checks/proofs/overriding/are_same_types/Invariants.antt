use Rattle.std.proofs.Common.{◌≡◌, length}
use Rattle.member_checks.proofs.SameTypes.{same_lists}
use Rattle.member_checks.proofs.overriding.are_same_types.Given as goal

abbrev pub invariant-loop-first : goal.invariant-loop-first
invariant-loop-first l = same_lists l.fn.one l.fn.other ≡ same_lists l.left l.right

abbrev pub decreases-loop-first : goal.decreases-loop-first
decreases-loop-first l = length l.left
