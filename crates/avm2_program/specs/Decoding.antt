-- The instructions of a body in their order.
use Rattle.std.specs.Ordering.{int_eq}
use Rattle.std.specs.Prelude.{Err, List, Ok, Result, [], if◌then◌else◌, length, nat_lt, pos, suc, zero, ℕ, ℤ, ◌+ℤ◌, ◌∷◌}
use Rattle.avm2_code.specs.Reading.{instruction_at}
use Rattle.avm2_code.specs.declared.body.PlacedInstruction.{PlacedInstruction}
use Rattle.avm2_code.specs.declared.instruction.Instruction.{Instruction}
use Rattle.avm2_code.specs.declared.reason.CodeReason.{CodeReason}

abbrev pub decoded : ℕ → Instruction × ℕ → PlacedInstruction
decoded place read = record { place = place; instruction = read.0; next = read.1 }

-- instructions from a place on, and none behind one that can't be read; at most so many
abbrev pub read_on : (ℕ → List PlacedInstruction) → ℕ → Result (Instruction × ℕ) CodeReason → List PlacedInstruction
read_on others place (Ok read) = decoded place read ∷ others read.1
read_on others place (Err _) = []

abbrev pub decoded_from : List ℕ → ℕ → ℕ → List PlacedInstruction
decoded_from code zero place = []
decoded_from code (suc n) place =
    if nat_lt place (length code) then read_on (decoded_from code n) place (instruction_at code place) else []

-- each has a byte or more
abbrev pub instructions : List ℕ → List PlacedInstruction
instructions code = decoded_from code (length code) 0

-- the number of the instruction that stands at a place; of no instruction it is the number of all
abbrev pub number_at : ℤ → List PlacedInstruction → ℕ
number_at place [] = 0
number_at place (d ∷ others) = if int_eq (pos d.place) place then 0 else suc (number_at place others)

-- the number of the instruction where a branch leads, whose offset counts from the place behind it
abbrev pub target : List PlacedInstruction → ℕ → ℤ → ℕ
target code next offset = number_at (pos next +ℤ offset) code
