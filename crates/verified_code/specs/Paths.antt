-- The paths of code, whatever they carry.
use Rattle.std.specs.Prelude.{◌≡◌, ℕ, zero, suc, List, [], length, Bool, true, false, Option, Some, None, Ok, ◌⊎◌, IsTrue, ℤ, pos, ◌+ℤ◌}
use Rattle.avm2_code.specs.declared.instruction.Instruction.{Instruction}
use Rattle.avm2_code.specs.declared.table.Successor.{Successor}
use Rattle.avm2_code.specs.declared.table.Successor.TheVariants.{Next, Jumps, Branches, Returns}
use Rattle.avm2_code.specs.Body.{HasInstruction}
use Rattle.avm2_code.specs.Reading.{instruction_at}
use Rattle.avm2_code.specs.Table.{row}

-- where code goes on behind an instruction
abbrev pub successor : Instruction → Successor
successor i = (row (λ name. false) i).effect.successor

-- whether code may go on to the next instruction
abbrev pub falls_through : Successor → Bool
falls_through Next = true
falls_through (Jumps offset) = false
falls_through (Branches offset) = true
falls_through Returns = false

-- where a branch leads, if there is one and the next instruction has this place; it may lead out of the code
abbrev pub branch_place : Successor → ℕ → Option ℤ
branch_place Next next = None
branch_place (Jumps offset) next = Some (pos next +ℤ offset)
branch_place (Branches offset) next = Some (pos next +ℤ offset)
branch_place Returns next = None

-- code goes on to this place, where the next instruction has that one
abbrev pub GoesOn : Successor → ℕ → ℕ → Type 0
GoesOn s next to = (IsTrue (falls_through s) × (to ≡ next)) ⊎ (branch_place s next ≡ Some (pos to))

-- an instruction of the code stands at a place and can be read, and the next place is this
pub record Reads (code : List ℕ) (place : ℕ) (i : Instruction) (next : ℕ) : Type 0 where
  pub stands : HasInstruction code place
  pub read : instruction_at code place ≡ Ok (i, next)

-- some instruction stands at a place, with this next place, of which this holds
abbrev pub IsReadAs : List ℕ → (Instruction → ℕ → Type 0) → ℕ → Type 0
IsReadAs code P place = (i : Instruction) × (next : ℕ) × Reads code place i next × P i next

-- what a path carries at its start, what it carries behind an instruction, what it must carry before one, and which instructions it passes
module _ (code : List ℕ) {S : Type 0} (start : S) (after : Instruction → S → S) (Asks : Instruction → S → Type 0) (Passes : Instruction → Type 0) where
  -- a path goes on from an instruction to another
  pub record Step (from : ℕ) (before : S) (to : ℕ) (behind : S) : Type 0 where
    pub over : Instruction
    pub next : ℕ
    pub reads : Reads code from over next
    pub passes : Passes over
    pub has : Asks over before
    pub goes : GoesOn (successor over) next to
    pub meets : HasInstruction code to
    pub carries : behind ≡ after over before

  -- a path is at an instruction after so many, and carries this
  abbrev pub Path : ℕ → ℕ → S → Type 0
  Path zero place s = HasInstruction code place × (place ≡ 0) × (s ≡ start)
  Path (suc count) place s = (from : ℕ) × (before : S) × Path count from before × Step from before place s

  -- some path is at an instruction and carries this
  abbrev pub Arrives : ℕ → S → Type 0
  Arrives place s = (count : ℕ) × Path count place s

  -- two paths carry different things to one instruction
  pub record Differ : Type 0 where
    pub at : ℕ
    pub one : S
    pub other : S
    pub first : Arrives at one
    pub second : Arrives at other
    pub differ : one ≡ other → ⊥

  -- a path comes to an instruction that it passes, without what it must carry there
  pub record Lacks (place : ℕ) : Type 0 where
    pub carried : S
    pub arrives : Arrives place carried
    pub over : Instruction
    pub next : ℕ
    pub reads : Reads code place over next
    pub passes : Passes over
    pub lacks : Asks over carried → ⊥

  -- a path leaves the code behind an instruction; empty code is left at its start
  pub record LeavesBehind (place : ℕ) : Type 0 where
    pub carried : S
    pub arrives : Arrives place carried
    pub over : Instruction
    pub next : ℕ
    pub reads : Reads code place over next
    pub passes : Passes over
    pub has : Asks over carried
    pub falls : IsTrue (falls_through (successor over))
    pub ends : next ≡ length code

  abbrev pub FallsOff : ℕ → Type 0
  FallsOff place = ((code ≡ []) × (place ≡ 0)) ⊎ LeavesBehind place

  -- what paths carry to each place, where each step keeps it
  pub record AreKept (carried : ℕ → Option S) : Type 0 where
    pub starts : HasInstruction code 0 → carried 0 ≡ Some start
    pub goes_on : (from : ℕ) (before : S) (to : ℕ) (behind : S) → carried from ≡ Some before → Step from before to behind → carried to ≡ Some behind

-- a branch from an instruction at a place, where the next one has that place, leads to no instruction
pub record LeadsOff (code : List ℕ) (i : Instruction) (next : ℕ) : Type 0 where
  pub to : ℤ
  pub branches : branch_place (successor i) next ≡ Some to
  pub meets_none : (place : ℕ) → to ≡ pos place → HasInstruction code place → ⊥
