use Rattle.std.proofs.Common.{◌≡◌, length, reverse}
use Rattle.std.specs.List.{find}
use Rattle.avm2_instructions.specs.Finding.{has_name}
use Rattle.avm2_instructions.proofs.look_ups.first_on.Given as goal

-- the operands that are left have the first
abbrev pub invariant-loop-operand : goal.invariant-loop-operand
invariant-loop-operand l =
    find (has_name l.fn.program l.fn.name l.fn.heap) l.fn.operands ≡ find (has_name l.fn.program l.fn.name l.fn.heap) (reverse l.rest)

abbrev pub decreases-loop-operand : goal.decreases-loop-operand
decreases-loop-operand l = length l.rest
