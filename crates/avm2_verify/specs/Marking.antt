-- What holds while the instructions of a body are marked.
use Rattle.std.specs.Prelude.{◌≡◌, ℕ, ◌<◌, List, length, Bool, true, Some, slice_get}
use Rattle.avm2_code.specs.Body.{IsReadTo, HasInstruction}

-- the instructions before a place are marked, and nothing else
pub record IsMarkedTo (code : List ℕ) (place : ℕ) (marks : List Bool) : Type 0 where
  pub long : length marks ≡ length code
  pub count : ℕ
  pub read : IsReadTo code count place
  pub marked : (at : ℕ) → slice_get marks at ≡ Some true → HasInstruction code at
  pub all : (earlier at : ℕ) → earlier < count → IsReadTo code earlier at → slice_get marks at ≡ Some true
