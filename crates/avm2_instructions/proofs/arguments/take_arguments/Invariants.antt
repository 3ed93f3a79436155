use Rattle.std.proofs.Common.{◌≡◌, ◌+◌, length}
use Rattle.avm2_instructions.specs.Taking.{with_all}
use Rattle.avm2_instructions.proofs.arguments.take_arguments.Given as goal

-- so many are taken, and as many are left
abbrev pub invariant-loop-left : goal.invariant-loop-left
invariant-loop-left l = (length l.arguments + l.left ≡ l.fn.count) × (l.fn.work ≡ with_all l.arguments l.work)

abbrev pub decreases-loop-left : goal.decreases-loop-left
decreases-loop-left l = l.left
