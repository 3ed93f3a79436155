use Rattle.std.proofs.Common.{◌-◌, length}
use Rattle.as3_parser.specs.Ahead.{Reads}
use Rattle.as3_parser.specs.Productions as production
use Rattle.as3_parser.specs.Metadata.{AreTags}
use Rattle.as3_parser.specs.Forms.{part}
use Rattle.as3_parser.proofs.metadata.metadata_tags.Given as goal

abbrev pub invariant-loop-alloc : goal.invariant-loop-alloc
invariant-loop-alloc l = Reads l.tokens l.fn.at l.at (part production.metadata_tags) (part production.metadata_tags) (AreTags l.text l.tags.items)

abbrev pub decreases-loop-alloc : goal.decreases-loop-alloc
decreases-loop-alloc l = length l.tokens - l.at
