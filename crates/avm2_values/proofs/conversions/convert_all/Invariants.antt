use Rattle.std.proofs.Common.{◌≡◌, length}
use Rattle.avm2_meaning.specs.Conversions.{convert_all}
use Rattle.avm2_values.proofs.Continuing.{behind}
use Rattle.avm2_values.proofs.conversions.convert_all.Given as goal

abbrev pub invariant-loop-kind : goal.invariant-loop-kind
invariant-loop-kind l =
    convert_all l.fn.program l.fn.kinds l.fn.operands l.fn.heap ≡ behind l.converted (convert_all l.fn.program l.rest l.operands l.fn.heap)

abbrev pub decreases-loop-kind : goal.decreases-loop-kind
decreases-loop-kind l = length l.rest
