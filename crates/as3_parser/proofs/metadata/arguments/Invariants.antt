use Rattle.std.proofs.Common.{◌-◌, length}
use Rattle.as3_parser.specs.Ahead.{Reads}
use Rattle.as3_parser.specs.Metadata.{AreArguments}
use Rattle.as3_parser.specs.Forms.{arguments_behind}
use Rattle.as3_parser.proofs.MetadataSteps.{behind_arguments}
use Rattle.as3_parser.proofs.metadata.arguments.Given as goal

abbrev pub invariant-loop-alloc : goal.invariant-loop-alloc
invariant-loop-alloc l = Reads l.tokens l.fn.at l.at arguments_behind behind_arguments (AreArguments l.text l.arguments.items)

abbrev pub decreases-loop-alloc : goal.decreases-loop-alloc
decreases-loop-alloc l = length l.tokens - l.at
