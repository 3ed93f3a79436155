-- The instructions of a body.
use Rattle.std.specs.Prelude.{◌≡◌, ℕ, zero, suc, ◌<◌, List, [], ◌∷◌, length, Ok, Err}
use Rattle.avm2_code.specs.declared.body.PlacedInstruction.{PlacedInstruction}
use Rattle.avm2_code.specs.declared.instruction.Instruction.{Instruction}
use Rattle.avm2_code.specs.declared.reason.CodeReason.{CodeReason}
use Rattle.avm2_code.specs.Reading.{instruction_at}

-- instructions are read one after another from place 0, and none behind one that can't be read; this is the place behind so many
abbrev pub IsReadTo : List ℕ → ℕ → ℕ → Type 0
IsReadTo code zero place = place ≡ 0
IsReadTo code (suc count) place = (before : ℕ) × (i : Instruction) × IsReadTo code count before × (instruction_at code before ≡ Ok (i, place))

-- an instruction of the code stands at a place, whether it can be read or not
pub record HasInstruction (code : List ℕ) (place : ℕ) : Type 0 where
  pub count : ℕ
  pub read : IsReadTo code count place
  pub inside : place < length code

-- no instruction can be read at a place: the code ends there, or what stands there has a reason
pub record EndsAt (code : List ℕ) (place : ℕ) : Type 0 where
  pub reason : CodeReason
  pub is : instruction_at code place ≡ Err reason

-- these instructions are read one behind another from a place, and then no more can be read
abbrev pub AreReadFrom : List ℕ → ℕ → List PlacedInstruction → Type 0
AreReadFrom code place [] = EndsAt code place
AreReadFrom code place (x ∷ xs) = (x.place ≡ place) × (instruction_at code place ≡ Ok (x.instruction, x.next)) × AreReadFrom code x.next xs

-- the instructions of code as a list: read from place 0, and none behind one that can't be read
abbrev pub AreInstructions : List ℕ → List PlacedInstruction → Type 0
AreInstructions code xs = AreReadFrom code 0 xs
