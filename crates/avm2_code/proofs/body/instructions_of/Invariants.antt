use Rattle.std.proofs.Common.{◌-◌, List, ◌++◌, length}
use Rattle.avm2_code.specs.declared.body.PlacedInstruction.{PlacedInstruction}
use Rattle.avm2_code.specs.Body.{AreReadFrom, AreInstructions}
use Rattle.avm2_code.proofs.body.instructions_of.Given as goal

abbrev pub invariant-loop-place : goal.invariant-loop-place
invariant-loop-place l = (rest : List PlacedInstruction) → AreReadFrom l.code l.place rest → AreInstructions l.code (l.instructions ++ rest)

abbrev pub decreases-loop-place : goal.decreases-loop-place
decreases-loop-place l = length l.code - l.place
