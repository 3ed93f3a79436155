use Rattle.std.proofs.Common.{◌-◌, length}
use Rattle.as3_parser.specs.Ahead.{Reads}
use Rattle.as3_parser.specs.Statements.{AreVariables}
use Rattle.as3_parser.specs.Forms.{declarations}
use Rattle.as3_parser.proofs.SimpleSteps.{behind_variables}
use Rattle.as3_parser.proofs.declarations.variables.Given as goal

abbrev pub invariant-loop-alloc : goal.invariant-loop-alloc
invariant-loop-alloc l = Reads l.tokens l.fn.at l.at declarations behind_variables (AreVariables l.text l.variables.items)

abbrev pub decreases-loop-alloc : goal.decreases-loop-alloc
decreases-loop-alloc l = length l.tokens - l.at
