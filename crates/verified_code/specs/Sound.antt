-- What verified code gives, instruction by instruction.
use Rattle.std.specs.Prelude.{◌≡◌, ℕ, suc, ◌<◌, ◌≤◌, List, length, All, Bool, Option, Some, None, Ok, slice_get, ◌⊎◌, IsTrue, ℤ, pos, false, zero}
use Rattle.abc_format.specs.declared.records.Abc.{Abc}
use Rattle.abc_format.specs.declared.records.ClassInfo.{ClassInfo}
use Rattle.abc_format.specs.declared.records.MethodBody.{MethodBody}
use Rattle.abc_format.specs.declared.records.Multiname.{Multiname}
use Rattle.avm2_code.specs.declared.body.PlacedInstruction.{PlacedInstruction}
use Rattle.avm2_code.specs.declared.instruction.Instruction.{Instruction}
use Rattle.avm2_code.specs.declared.instruction.Instruction.TheVariants.{Label}
use Rattle.avm2_code.specs.declared.table.LocalUse.{LocalUse}
use Rattle.avm2_code.specs.declared.table.LocalUse.TheVariants.{Nothing, Reads as ReadsLocal, Writes}
use Rattle.avm2_code.specs.declared.table.OperandForm.{OperandForm}
use Rattle.avm2_code.specs.declared.table.OperandForm.TheVariants.{U30}
use Rattle.avm2_code.specs.declared.table.Role.TheVariants.{Name, String, Int, Class}
use Rattle.avm2_code.specs.Body.{HasInstruction, AreInstructions}
use Rattle.avm2_code.specs.Reading.{instruction_at}
use Rattle.avm2_code.specs.Table.{row, operands}
use Rattle.verified_code.specs.declared.Depths.{Depths}
use Rattle.verified_code.specs.Operands.{is_late_kind, is_runtime_kind, name_at}
use Rattle.verified_code.specs.Paths.{Reads, GoesOn, successor, branch_place, falls_through}
use Rattle.verified_code.specs.Verified.{depth_limit, local_limit, parameters, scope_limit, effect, no_depths, depths_behind, KeepsDepths, HasDepths, IsVerified}

-- a local below a number, if one is read or written
abbrev pub UsesBelow : ℕ → LocalUse → Type 0
UsesBelow count Nothing = Unit {0}
UsesBelow count (ReadsLocal local) = local < count
UsesBelow count (Writes local) = local < count

-- the entry of a number, counted from 1
abbrev pub entry_at : {A : Type 0} → List A → ℕ → Option A
entry_at xs zero = None
entry_at xs (suc n) = slice_get xs n

-- a name whose namespace is no value of the stack, and whose text is one only where that may be
pub record IsPlayed (late_name : Bool) (name : Multiname) : Type 0 where
  pub no_runtime : is_runtime_kind name ≡ false
  pub late : IsTrue (is_late_kind name) → IsTrue late_name

-- what an operand names is there
abbrev pub IsThere : Abc → Bool → OperandForm → Type 0
IsThere a late_name (U30 Name n) = (name : Multiname) × (name_at a.constant_pool n ≡ Some name) × IsPlayed late_name name
IsThere a late_name (U30 String n) = (text : List ℕ) × (entry_at a.constant_pool.strings n ≡ Some text)
IsThere a late_name (U30 Int n) = (int : ℤ) × (entry_at a.constant_pool.integers n ≡ Some int)
IsThere a late_name (U30 Class n) = (class : ClassInfo) × (slice_get a.classes n ≡ Some class)
IsThere a late_name _ = Unit {0}

-- all that the operands of an instruction name is there
abbrev pub HasOperands : Abc → Instruction → Type 0
HasOperands a i = All (IsThere a (row (λ name. false) i).late_name) (operands i)

-- a branch from a place leads to an instruction, which is a label where it doesn't stand further on
pub record LeadsWell (code : List ℕ) (place : ℕ) (to : ℤ) : Type 0 where
  pub target : ℕ
  pub is : to ≡ pos target
  pub meets : HasInstruction code target
  pub label : target ≤ place → (behind : ℕ) × (instruction_at code target ≡ Ok (Label, behind))

module _ (a : Abc) (b : MethodBody) where
  -- an instruction at a place, where the next one has that place: what it names is there, its local is one of the body's, its branch leads well, and behind it stands an instruction or the code ends
  pub record IsSoundAt (place : ℕ) (i : Instruction) (next : ℕ) : Type 0 where
    pub operands : HasOperands a i
    pub local : UsesBelow b.local_count (effect a i).local
    pub branch : (to : ℤ) → branch_place (successor i) next ≡ Some to → LeadsWell b.code place to
    pub behind : (next ≡ length b.code) ⊎ HasInstruction b.code next

  -- a path that comes to an instruction keeps its depths, and wherever it goes on it comes to an instruction
  pub record GoesWell (place : ℕ) (d : Depths) (i : Instruction) (next : ℕ) : Type 0 where
    pub keeps : KeepsDepths a b i d
    pub goes_on : (to : ℕ) → GoesOn (successor i) next to → HasInstruction b.code to × HasDepths a b to (depths_behind a i d)

  -- a body that can be played
  pub record IsSound : Type 0 where
    pub no_handlers : length b.exceptions ≡ 0
    pub values : b.max_stack ≤ depth_limit
    pub scopes : b.init_scope_depth ≤ b.max_scope_depth
    pub few_scopes : scope_limit b ≤ depth_limit
    pub locals : parameters (slice_get a.methods b.method) < b.local_count
    pub few_locals : b.local_count ≤ local_limit
    pub starts : HasInstruction b.code 0 × HasDepths a b 0 (no_depths a)
    pub reads : (place : ℕ) → HasInstruction b.code place → (i : Instruction) × (next : ℕ) × Reads b.code place i next
    pub sound : (place : ℕ) (i : Instruction) (next : ℕ) → Reads b.code place i next → IsSoundAt place i next
    pub goes : (place : ℕ) (d : Depths) (i : Instruction) (next : ℕ) → HasDepths a b place d → Reads b.code place i next → GoesWell place d i next
    pub one_depth : (place : ℕ) (d e : Depths) → HasDepths a b place d → HasDepths a b place e → d ≡ e

  module _ (xs : List PlacedInstruction) where
    -- a branch from an item of the list leads to an item, which is a label where it doesn't stand further on
    pub record LeadsIn (number : ℕ) (to : ℤ) : Type 0 where
      pub target : ℕ
      pub it : PlacedInstruction
      pub is : slice_get xs target ≡ Some it
      pub at : to ≡ pos it.place
      pub label : target ≤ number → it.instruction ≡ Label

    -- the next item stands where an item ends
    pub record HasNext (number : ℕ) (x : PlacedInstruction) : Type 0 where
      pub it : PlacedInstruction
      pub is : slice_get xs (suc number) ≡ Some it
      pub at : it.place ≡ x.next

    -- an item of the list
    pub record IsSoundItem (number : ℕ) (x : PlacedInstruction) : Type 0 where
      pub operands : HasOperands a x.instruction
      pub local : UsesBelow b.local_count (effect a x.instruction).local
      pub branch : (to : ℤ) → branch_place (successor x.instruction) x.next ≡ Some to → LeadsIn number to
      pub behind : ((x.next ≡ length b.code) × (suc number ≡ length xs)) ⊎ HasNext number x
      pub next : (d : Depths) → HasDepths a b x.place d → IsTrue (falls_through (successor x.instruction)) → HasNext number x

    -- the instructions of a body as a list
    pub record AreSound : Type 0 where
      pub starts : (first : PlacedInstruction) × (slice_get xs 0 ≡ Some first) × (first.place ≡ 0)
      pub each : (number : ℕ) (x : PlacedInstruction) → slice_get xs number ≡ Some x → IsSoundItem number x

-- each body of verified code can be played
abbrev pub VerifiedIsSound : Type 0
VerifiedIsSound = (a : Abc) (number : ℕ) (b : MethodBody) → IsVerified a → slice_get a.method_bodies number ≡ Some b → IsSound a b

-- and so can the list of its instructions
abbrev pub VerifiedListsAreSound : Type 0
VerifiedListsAreSound =
    (a : Abc) (number : ℕ) (b : MethodBody) (xs : List PlacedInstruction) → IsVerified a → slice_get a.method_bodies number ≡ Some b → AreInstructions b.code xs → AreSound a b xs
