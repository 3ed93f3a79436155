-- Laws of the instructions of a body.
use Rattle.std.specs.Prelude.{◌≡◌, ℕ, suc, ◌<◌, List, length, Some, Ok, slice_get, ◌⊎◌}
use Rattle.avm2_code.specs.declared.body.PlacedInstruction.{PlacedInstruction}
use Rattle.avm2_code.specs.declared.instruction.Instruction.{Instruction}
use Rattle.avm2_code.specs.Body.{AreInstructions, EndsAt, HasInstruction}
use Rattle.avm2_code.specs.Reading.{instruction_at}

-- the item of a list stands at this place
pub record StandsIn (xs : List PlacedInstruction) (number place : ℕ) : Type 0 where
  pub it : PlacedInstruction
  pub is : slice_get xs number ≡ Some it
  pub at : it.place ≡ place

-- behind an item of the list stands the next one, or it is the last and no instruction can be read there
pub data IsFollowed (code : List ℕ) (xs : List PlacedInstruction) (number : ℕ) (x : PlacedInstruction) : Type 0 where
  ByNext : StandsIn xs (suc number) x.next → IsFollowed code xs number x
  AtLast : suc number ≡ length xs → EndsAt code x.next → IsFollowed code xs number x

-- an instruction of the code that can be read at a place is an item of the list
pub record IsListed (xs : List PlacedInstruction) (place : ℕ) (i : Instruction) (next : ℕ) : Type 0 where
  pub number : ℕ
  pub is : slice_get xs number ≡ Some (record { place = place; instruction = i; next = next })

-- code has exactly one list of instructions; its items are the instructions of the code that can be read, in the order of their places
pub record HasOneList : Type 0 where
  pub some : (code : List ℕ) → (xs : List PlacedInstruction) × AreInstructions code xs
  pub one : (code : List ℕ) (xs ys : List PlacedInstruction) → AreInstructions code xs → AreInstructions code ys → xs ≡ ys
  pub stands : (code : List ℕ) (xs : List PlacedInstruction) (number : ℕ) (x : PlacedInstruction) → AreInstructions code xs → slice_get xs number ≡ Some x
      → HasInstruction code x.place × (instruction_at code x.place ≡ Ok (x.instruction, x.next))
  pub listed : (code : List ℕ) (xs : List PlacedInstruction) (place : ℕ) (i : Instruction) (next : ℕ) → AreInstructions code xs → HasInstruction code place
      → instruction_at code place ≡ Ok (i, next) → IsListed xs place i next
  pub followed : (code : List ℕ) (xs : List PlacedInstruction) (number : ℕ) (x : PlacedInstruction) → AreInstructions code xs → slice_get xs number ≡ Some x → IsFollowed code xs number x
  pub ordered : (code : List ℕ) (xs : List PlacedInstruction) (number other : ℕ) (x y : PlacedInstruction) → AreInstructions code xs → number < other → slice_get xs number ≡ Some x
      → slice_get xs other ≡ Some y → x.place < y.place
  pub decided : (code : List ℕ) (place : ℕ) → HasInstruction code place ⊎ (HasInstruction code place → ⊥)
