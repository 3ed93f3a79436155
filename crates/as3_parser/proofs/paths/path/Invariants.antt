use Rattle.std.proofs.Common.{◌-◌, length}
use Rattle.as3_parser.specs.Ahead.{Reads}
use Rattle.as3_parser.specs.Trees.{IsPath}
use Rattle.as3_parser.specs.Productions as production
use Rattle.as3_parser.specs.Forms.{part}
use Rattle.as3_parser.proofs.paths.path.Given as goal

abbrev pub invariant-loop-alloc : goal.invariant-loop-alloc
invariant-loop-alloc l = Reads l.tokens l.fn.at l.at (part production.path) (part production.more_names) (IsPath l.text l.names.items)

abbrev pub decreases-loop-alloc : goal.decreases-loop-alloc
decreases-loop-alloc l = length l.tokens - l.at
