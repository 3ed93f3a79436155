-- The ways on from an instruction.
use Rattle.std.specs.Prelude.{◌≡◌, ℕ, List, [], ◌∷◌, Bool, false, Option, Some, None, Result, Ok, Err, slice_get, ◌⊎◌, if◌then◌else◌, ℤ, pos, negsuc}
use Rattle.std.specs.List.{list_any}
use Rattle.abc_format.specs.declared.records.Abc.{Abc}
use Rattle.abc_format.specs.declared.records.ConstantPool.{ConstantPool}
use Rattle.abc_format.specs.declared.records.MethodBody.{MethodBody}
use Rattle.avm2_code.specs.declared.instruction.Instruction.{Instruction}
use Rattle.avm2_code.specs.declared.reason.CodeReason.{CodeReason}
use Rattle.avm2_code.specs.declared.reason.CodeReason.TheVariants.{Index, NotPlayed}
use Rattle.avm2_code.specs.declared.table.OperandForm.{OperandForm}
use Rattle.avm2_code.specs.declared.table.OperandForm.TheVariants.{U30}
use Rattle.avm2_code.specs.declared.table.Role.TheVariants.{Name}
use Rattle.avm2_code.specs.declared.table.Successor.{Successor}
use Rattle.avm2_code.specs.Reading.{instruction_at}
use Rattle.avm2_code.specs.Table.{row, operands}
use Rattle.verified_code.specs.declared.Depths.{Depths}
use Rattle.verified_code.specs.Operands.{is_late, is_missing, is_unplayed}
use Rattle.verified_code.specs.Paths.{Step, falls_through, branch_place}
use Rattle.verified_code.specs.Verified.{depths_behind, no_depths, KeepsDepths, IsPassed}
use Rattle.avm2_verify.specs.declared.ways.Ways.{Ways}

-- the instruction at a place, where a path passes it, and otherwise the first reason that ends paths there
abbrev pub passing : Abc → Result (Instruction × ℕ) CodeReason → Result (Instruction × ℕ) CodeReason
passing a (Err r) = Err r
passing a (Ok r) =
    if list_any (is_missing a) (operands r.0) then Err Index
    else if list_any (is_unplayed a.constant_pool (row (λ name. false) r.0).late_name) (operands r.0) then Err NotPlayed
    else Ok r

abbrev pub passed : Abc → List ℕ → ℕ → Result (Instruction × ℕ) CodeReason
passed a code place = passing a (instruction_at code place)

-- whether an operand is a name of a late kind
abbrev pub names_late : ConstantPool → OperandForm → Bool
names_late p (U30 Name n) = is_late p n
names_late p _ = false

abbrev pub first_is_late : ConstantPool → List OperandForm → Bool
first_is_late p [] = false
first_is_late p (o ∷ os) = names_late p o

abbrev pub met_by : ℕ → Option Bool → Option ℕ
met_by place None = None
met_by place (Some mark) = if mark then Some place else None

-- a place, if an instruction stands there
abbrev pub met : List Bool → ℕ → Option ℕ
met marks place = met_by place (slice_get marks place)

-- the place of the next instruction, if code may go on to it
abbrev pub next_met : List Bool → Successor → ℕ → Option ℕ
next_met marks s next = if falls_through s then met marks next else None

abbrev pub met_at : List Bool → Option ℤ → Option ℕ
met_at marks None = None
met_at marks (Some (pos to)) = met marks to
met_at marks (Some (negsuc to)) = None

-- the place that a branch leads to, if an instruction stands there
abbrev pub branch_met : List Bool → Successor → ℕ → Option ℕ
branch_met marks s next = met_at marks (branch_place s next)

-- a step of a path of a body
abbrev pub BodyStep : Abc → MethodBody → ℕ → Depths → ℕ → Depths → Type 0
BodyStep a b = Step b.code (no_depths a) (depths_behind a) (KeepsDepths a b) (IsPassed a)

-- a way on leads to this place with these depths
abbrev pub LeadTo : Option Ways → ℕ → Depths → Type 0
LeadTo None to d = ⊥
LeadTo (Some w) to d = (d ≡ w.behind) × ((w.next ≡ Some to) ⊎ (w.branch ≡ Some to))

-- the ways on from an instruction that a path comes to with these depths
pub record AreWays (a : Abc) (b : MethodBody) (place : ℕ) (before : Depths) (ways : Option Ways) : Type 0 where
  pub only : (to : ℕ) (d : Depths) → LeadTo ways to d → BodyStep a b place before to d
  pub all : (to : ℕ) (d : Depths) → BodyStep a b place before to d → LeadTo ways to d
