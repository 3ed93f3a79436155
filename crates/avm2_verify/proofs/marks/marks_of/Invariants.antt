use Rattle.std.proofs.Common.{◌-◌, length}
use Rattle.avm2_verify.specs.Marking.{IsMarkedTo}
use Rattle.avm2_verify.proofs.marks.marks_of.Given as goal

abbrev pub invariant-loop-place : goal.invariant-loop-place
invariant-loop-place l = IsMarkedTo l.code l.place l.marks.items

abbrev pub decreases-loop-place : goal.decreases-loop-place
decreases-loop-place l = length l.code - l.place
