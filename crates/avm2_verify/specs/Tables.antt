-- What is kept of verified code: of each place of each body the depths of the paths that come to it.
use Rattle.std.specs.Prelude.{◌≡◌, ℕ, ◌<◌, List, length, Bool, true, Option, Some, slice_get}
use Rattle.abc_format.specs.declared.records.Abc.{Abc}
use Rattle.abc_format.specs.declared.records.MethodBody.{MethodBody}
use Rattle.avm2_code.specs.Body.{HasInstruction}
use Rattle.verified_code.specs.declared.Depths.{Depths}
use Rattle.verified_code.specs.Verified.{HasDepths, IsVerified}

-- of each place, whether an instruction stands there
pub record AreMarks (code : List ℕ) (marks : List Bool) : Type 0 where
  pub long : length marks ≡ length code
  pub marked : (place : ℕ) → slice_get marks place ≡ Some true → HasInstruction code place
  pub all : (place : ℕ) → HasInstruction code place → slice_get marks place ≡ Some true

-- of each place, the depths of the paths that come to it, where one does
pub record AreDepthsOf (a : Abc) (b : MethodBody) (table : List (Option Depths)) : Type 0 where
  pub long : length table ≡ length b.code
  pub arrives : (place : ℕ) (d : Depths) → slice_get table place ≡ Some (Some d) → HasDepths a b place d
  pub all : (place : ℕ) (d : Depths) → HasDepths a b place d → slice_get table place ≡ Some (Some d)

-- the same of each body of the first so many
abbrev pub AreDepthsTo : ℕ → Abc → List (List (Option Depths)) → Type 0
AreDepthsTo count a tables = (number : ℕ) (b : MethodBody) → number < count → slice_get a.method_bodies number ≡ Some b → (table : List (Option Depths)) × (slice_get tables number ≡ Some table) × AreDepthsOf a b table

-- the depths before the instruction at a place of a body
pub record HasDepthsIn (a : Abc) (number place : ℕ) (d : Depths) : Type 0 where
  pub body : MethodBody
  pub is : slice_get a.method_bodies number ≡ Some body
  pub has : HasDepths a body place d

-- what the tables of verified code are
pub record IsVerifiedBy (a : Abc) (tables : List (List (Option Depths))) : Type 0 where
  pub verified : IsVerified a
  pub long : length tables ≡ length a.method_bodies
  pub depths : AreDepthsTo (length tables) a tables
