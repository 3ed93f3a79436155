use Rattle.std.proofs.Common.{◌≡◌, length}
use Rattle.avm2_meaning.specs.Results.{all_plain}
use Rattle.avm2_meaning.specs.declared.heap.Heap.{Heap}
use Rattle.avm2_values.proofs.Continuing.{behind}
use Rattle.avm2_values.proofs.operators.all_plain.Given as goal

abbrev pub invariant-loop-operand : goal.invariant-loop-operand
invariant-loop-operand l = (h : Heap) → all_plain l.fn.operands h ≡ behind l.values (all_plain l.operands h)

abbrev pub decreases-loop-operand : goal.decreases-loop-operand
decreases-loop-operand l = length l.operands
