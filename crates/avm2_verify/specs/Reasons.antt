-- What the functions that look for the reasons of a body answer.
use Rattle.std.specs.Prelude.{◌≡◌, ℕ, ◌<◌, length, Bool, true, false, not, ◌&&◌, nat_le, Option, Some, None, Result, Ok, Err, if◌then◌else◌, List, ℤ, slice_get}
use Rattle.abc_format.specs.declared.records.Abc.{Abc}
use Rattle.abc_format.specs.declared.records.MethodBody.{MethodBody}
use Rattle.avm2_code.specs.declared.instruction.Instruction.{Instruction}
use Rattle.avm2_code.specs.declared.instruction.Instruction.TheVariants.{Label}
use Rattle.avm2_code.specs.declared.reason.CodeReason.{CodeReason}
use Rattle.avm2_code.specs.declared.reason.CodeReason.TheVariants.{OffInstruction, BackwardToNoLabel}
use Rattle.avm2_code.specs.declared.table.Successor.{Successor}
use Rattle.avm2_code.specs.Reading.{instruction_at}
use Rattle.verified_code.specs.declared.Depths.{Depths}
use Rattle.verified_code.specs.Paths.{Lacks, LeavesBehind, successor, branch_place}
use Rattle.verified_code.specs.Verified.{HasReason, HasNoReason, IsFirstOf, rank, no_depths, depths_behind, KeepsDepths, IsPassed, depth_limit, scope_limit}
use Rattle.avm2_verify.specs.declared.body.Checked.{Checked}
use Rattle.avm2_verify.specs.declared.body.Checked.TheVariants as checked
use Rattle.avm2_verify.specs.declared.body.PathEnds.{PathEnds}
use Rattle.avm2_verify.specs.declared.body.PathEnds.TheVariants as ends
use Rattle.avm2_verify.specs.Tables.{AreDepthsOf}
use Rattle.avm2_verify.specs.Ways.{met_at, passed}

abbrev pub is_label : Instruction → Bool
is_label Label = true
is_label _ = false

abbrev pub is_label_read : Result (Instruction × ℕ) CodeReason → Bool
is_label_read (Ok r) = is_label r.0
is_label_read (Err r) = false

-- the reason of a branch that leads to an instruction, if it meets one
abbrev pub met_reason : List ℕ → ℕ → Option ℕ → Option CodeReason
met_reason code place None = Some OffInstruction
met_reason code place (Some to) = if nat_le to place && not (is_label_read (instruction_at code to)) then Some BackwardToNoLabel else None

abbrev pub target_reason : List ℕ → List Bool → ℕ → Option ℤ → Option CodeReason
target_reason code marks place None = None
target_reason code marks place (Some to) = met_reason code place (met_at marks (Some to))

-- the reason of where an instruction branches to
abbrev pub branch_reason : List ℕ → List Bool → ℕ → Successor → ℕ → Option CodeReason
branch_reason code marks place s next = target_reason code marks place (branch_place s next)

abbrev pub passed_reason : List ℕ → List Bool → ℕ → Result (Instruction × ℕ) CodeReason → Option CodeReason
passed_reason code marks place (Err r) = Some r
passed_reason code marks place (Ok r) = branch_reason code marks place (successor r.0) r.1

-- the reason of an instruction, whatever paths carry
abbrev pub own_reason : Abc → List ℕ → List Bool → ℕ → Option CodeReason
own_reason a code marks place = passed_reason code marks place (passed a code place)

module _ (a : Abc) (b : MethodBody) where
  abbrev pub BodyLacks : ℕ → Type 0
  BodyLacks = Lacks b.code (no_depths a) (depths_behind a) (KeepsDepths a b) (IsPassed a)

  abbrev pub BodyLeaves : ℕ → Type 0
  BodyLeaves = LeavesBehind b.code (no_depths a) (depths_behind a) (KeepsDepths a b) (IsPassed a)

  -- how the paths that come to a place end there
  abbrev pub AreEnds : ℕ → PathEnds → Type 0
  AreEnds place ends.Fine = (BodyLacks place → ⊥) × (BodyLeaves place → ⊥)
  AreEnds place ends.Lacking = BodyLacks place
  AreEnds place ends.Leaving = (BodyLacks place → ⊥) × BodyLeaves place

  -- no reason of a lower rank stands at a place
  abbrev pub NoneBelow : ℕ → ℕ → Type 0
  NoneBelow n place = (r : CodeReason) → rank r < n → HasReason a b r place → ⊥

  -- the first reason at a place, if there is one
  abbrev pub IsReasonAt : ℕ → Option CodeReason → Type 0
  IsReasonAt place None = (r : CodeReason) → HasReason a b r place → ⊥
  IsReasonAt place (Some r) = HasReason a b r place × NoneBelow (rank r) place

  -- what was found of a body
  abbrev pub IsChecked : Checked → Type 0
  IsChecked (checked.Fine table) = HasNoReason a b × AreDepthsOf a b table
  IsChecked (checked.Bad place r) = IsFirstOf a b place r

-- the limits of a body as a whole, but for paths that differ
pub data HasWrongLimits (b : MethodBody) : Type 0 where
  TooManyValues : depth_limit < b.max_stack → HasWrongLimits b
  ScopesBelow : b.max_scope_depth < b.init_scope_depth → HasWrongLimits b
  TooManyScopes : depth_limit < scope_limit b → HasWrongLimits b

-- the bodies before one have no reason, and their tables are these
pub record AreChecked (a : Abc) (count : ℕ) (tables : List (List (Option Depths))) : Type 0 where
  pub long : length tables ≡ count
  pub fine : (number : ℕ) (b : MethodBody) → number < count → slice_get a.method_bodies number ≡ Some b → HasNoReason a b
  pub depths : (number : ℕ) (b : MethodBody) → number < count → slice_get a.method_bodies number ≡ Some b → (table : List (Option Depths)) × (slice_get tables number ≡ Some table) × AreDepthsOf a b table
