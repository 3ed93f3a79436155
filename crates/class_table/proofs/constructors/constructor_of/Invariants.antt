use Rattle.std.proofs.Common.{◌≡◌, length}
use Rattle.class_table.specs.Columns.{constructor_written}
use Rattle.class_table.proofs.constructors.constructor_of.Given as goal

abbrev pub invariant-loop-member : goal.invariant-loop-member
invariant-loop-member l = constructor_written l.fn.classes l.fn.here l.fn.members ≡ constructor_written l.fn.classes l.fn.here l.rest

abbrev pub decreases-loop-member : goal.decreases-loop-member
decreases-loop-member l = length l.rest
