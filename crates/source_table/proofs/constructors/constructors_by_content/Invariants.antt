use Rattle.std.proofs.Common.{◌≡◌, ◌++◌, length}
use Rattle.class_table.specs.Ids.{taken_by_each}
use Rattle.source_table.specs.Constructors.{constructors_read}
use Rattle.source_table.proofs.constructors.constructors_by_content.Given as goal

abbrev pub invariant-loop-file : goal.invariant-loop-file
invariant-loop-file l = taken_by_each l.constructors ++ constructors_read l.fn.classes l.named l.rest ≡ constructors_read l.fn.classes l.fn.classes l.fn.files

abbrev pub decreases-loop-file : goal.decreases-loop-file
decreases-loop-file l = length l.rest
