-- Verified code: no body has a reason to refuse it. AVM2 Overview, chapters 2 and 5; which kinds of names are played, the limits and
-- the reasons with their order are this project's own.
use Rattle.std.specs.Prelude.{◌≡◌, ℕ, ◌+◌, ◌-◌, ◌<◌, ◌≤◌, List, length, false, Option, Some, None, Ok, Err, slice_get, ◌⊎◌, IsTrue, pos}
use Rattle.std.specs.List.{list_any}
use Rattle.abc_format.specs.declared.records.Abc.{Abc}
use Rattle.abc_format.specs.declared.records.MethodBody.{MethodBody}
use Rattle.abc_format.specs.declared.records.MethodInfo.{MethodInfo}
use Rattle.avm2_code.specs.declared.instruction.Instruction.{Instruction}
use Rattle.avm2_code.specs.declared.instruction.Instruction.TheVariants.{Label}
use Rattle.avm2_code.specs.declared.reason.CodeReason.{CodeReason}
use Rattle.avm2_code.specs.declared.reason.CodeReason.TheVariants as reason
use Rattle.avm2_code.specs.declared.table.Effect.{Effect}
use Rattle.avm2_code.specs.declared.table.LocalUse.{LocalUse}
use Rattle.avm2_code.specs.declared.table.LocalUse.TheVariants.{Nothing, Reads, Writes}
use Rattle.avm2_code.specs.Body.{HasInstruction}
use Rattle.avm2_code.specs.Reading.{instruction_at}
use Rattle.avm2_code.specs.Table.{row, operands}
use Rattle.verified_code.specs.declared.Depths.{Depths}
use Rattle.verified_code.specs.Operands.{is_missing, is_late, is_unplayed}
use Rattle.verified_code.specs.Paths.{IsReadAs, successor, branch_place, LeadsOff, Arrives, Differ, Lacks, FallsOff}

-- what a body may have at most of values on the stack, or of scopes
abbrev pub depth_limit : ℕ
depth_limit = 2048

-- and of locals
abbrev pub local_limit : ℕ
local_limit = 512

-- the number of parameters of a body's method
abbrev pub parameters : Option MethodInfo → ℕ
parameters None = 0
parameters (Some m) = length m.param_types

-- the scopes that a body may open
abbrev pub scope_limit : MethodBody → ℕ
scope_limit b = b.max_scope_depth - b.init_scope_depth

-- an instruction at a place branches back to a place, or to itself, where another instruction than a label stands
pub record LeadsBack (code : List ℕ) (place : ℕ) (i : Instruction) (next : ℕ) : Type 0 where
  pub to : ℕ
  pub branches : branch_place (successor i) next ≡ Some (pos to)
  pub back : to ≤ place
  pub meets : HasInstruction code to
  pub no_label : (behind : ℕ) → instruction_at code to ≡ Ok (Label, behind) → ⊥

-- a local at or above a number is read or written
abbrev pub UsesFrom : ℕ → LocalUse → Type 0
UsesFrom count Nothing = ⊥
UsesFrom count (Reads local) = count ≤ local
UsesFrom count (Writes local) = count ≤ local

module _ (a : Abc) where
  -- what an instruction does, where names of late kinds take a value more
  abbrev pub effect : Instruction → Effect
  effect i = (row (is_late a.constant_pool) i).effect

  -- an operand names an entry that isn't there
  abbrev pub HasWrongIndex : Instruction → Type 0
  HasWrongIndex i = IsTrue (list_any (is_missing a) (operands i))

  -- its name isn't played
  abbrev pub HasWrongName : Instruction → Type 0
  HasWrongName i = IsTrue (list_any (is_unplayed a.constant_pool (row (λ name. false) i).late_name) (operands i))

  -- a path goes on behind an instruction whose operands can be used
  pub record IsPassed (i : Instruction) : Type 0 where
    pub index : HasWrongIndex i → ⊥
    pub name : HasWrongName i → ⊥

  -- the depths behind an instruction
  abbrev pub depths_behind : Instruction → Depths → Depths
  depths_behind i d = record { stack = d.stack - (effect i).takes + (effect i).leaves; scopes = d.scopes - (effect i).scopes_taken + (effect i).scopes_left }

  abbrev pub no_depths : Depths
  no_depths = record { stack = 0; scopes = 0 }

  module _ (b : MethodBody) where
    -- an instruction finds what it takes and needs, and what it leaves is within the limits of the body
    pub record KeepsDepths (i : Instruction) (d : Depths) : Type 0 where
      pub takes : (effect i).takes ≤ d.stack
      pub needs : (effect i).scopes_needed ≤ d.scopes
      pub leaves : (depths_behind i d).stack ≤ b.max_stack
      pub scopes : (depths_behind i d).scopes ≤ scope_limit b

    -- a path comes to an instruction with these depths
    abbrev pub HasDepths : ℕ → Depths → Type 0
    HasDepths = Arrives b.code no_depths depths_behind KeepsDepths IsPassed

    -- the depths of a body as a whole
    pub data HasWrongDepths : Type 0 where
      TooManyValues : depth_limit < b.max_stack → HasWrongDepths
      ScopesBelow : b.max_scope_depth < b.init_scope_depth → HasWrongDepths
      TooManyScopes : depth_limit < scope_limit b → HasWrongDepths
      Different : Differ b.code no_depths depths_behind KeepsDepths IsPassed → HasWrongDepths

    -- its locals
    abbrev pub HasWrongLocals : Type 0
    HasWrongLocals = (local_limit < b.local_count) ⊎ (b.local_count ≤ parameters (slice_get a.methods b.method))

    -- an instruction that can't be read stands at a place
    abbrev pub IsRefused : CodeReason → ℕ → Type 0
    IsRefused r place = HasInstruction b.code place × (instruction_at b.code place ≡ Err r)

    -- the body has a reason at a place of its code; what a body as a whole has stands at place 0
    abbrev pub HasReason : CodeReason → ℕ → Type 0
    HasReason reason.HasExceptions place = (place ≡ 0) × (0 < length b.exceptions)
    HasReason reason.Cut place = IsRefused reason.Cut place
    HasReason reason.UnknownOpcode place = IsRefused reason.UnknownOpcode place
    HasReason reason.Number place = IsRefused reason.Number place
    HasReason reason.Index place = IsReadAs b.code (λ i next. HasWrongIndex i) place
    HasReason reason.NotPlayed place = IsReadAs b.code (λ i next. HasWrongName i) place
    HasReason reason.OffInstruction place = IsReadAs b.code (LeadsOff b.code) place
    HasReason reason.BackwardToNoLabel place = IsReadAs b.code (LeadsBack b.code place) place
    HasReason reason.StackDepth place = ((place ≡ 0) × HasWrongDepths) ⊎ Lacks b.code no_depths depths_behind KeepsDepths IsPassed place
    HasReason reason.LocalNumber place = ((place ≡ 0) × HasWrongLocals) ⊎ IsReadAs b.code (λ i next. UsesFrom b.local_count (effect i).local) place
    HasReason reason.FallsOff place = FallsOff b.code no_depths depths_behind KeepsDepths IsPassed place

    abbrev pub HasNoReason : Type 0
    HasNoReason = (r : CodeReason) (place : ℕ) → HasReason r place → ⊥

  -- no body has a reason
  abbrev pub IsVerified : Type 0
  IsVerified = (number : ℕ) (b : MethodBody) → slice_get a.method_bodies number ≡ Some b → HasNoReason b

-- the order of the reasons at one place
abbrev pub rank : CodeReason → ℕ
rank reason.HasExceptions = 0
rank reason.Cut = 1
rank reason.UnknownOpcode = 2
rank reason.Number = 3
rank reason.Index = 4
rank reason.NotPlayed = 5
rank reason.OffInstruction = 6
rank reason.BackwardToNoLabel = 7
rank reason.StackDepth = 8
rank reason.LocalNumber = 9
rank reason.FallsOff = 10

-- the first reason of a body: no other stands at an earlier place, or at the same place before it
pub record IsFirstOf (a : Abc) (b : MethodBody) (place : ℕ) (r : CodeReason) : Type 0 where
  pub has : HasReason a b r place
  pub first : (other : CodeReason) (at : ℕ) → HasReason a b other at → (place < at) ⊎ ((place ≡ at) × (rank r ≤ rank other))

-- the first reason of all: that of the first body that has one
pub record IsFirstReason (a : Abc) (number place : ℕ) (r : CodeReason) : Type 0 where
  pub body : MethodBody
  pub is : slice_get a.method_bodies number ≡ Some body
  pub has : IsFirstOf a body place r
  pub before : (earlier : ℕ) (b : MethodBody) → earlier < number → slice_get a.method_bodies earlier ≡ Some b → HasNoReason a b
