-- The operands of calls, taken off a stack.
use Rattle.std.specs.Prelude.{Err, List, Ok, Result as Computed, length, reverse, ◌++◌, ◌<◌, ◌≡◌, ◌≤◌, ⊤, ℕ}
use Rattle.flex_base.specs.declared.outcome.MachineFault.TheVariants as fault
use Rattle.flex_base.specs.declared.outcome.Outcome.TheVariants.{Fault}
use Rattle.avm2_meaning.specs.Effects.{with_top}
use Rattle.avm2_meaning.specs.declared.operand.Operand.{Operand}
use Rattle.avm2_meaning.specs.declared.work.Work.{Work}
use Rattle.avm2_values.specs.declared.refusal.Refusal.{Refusal}
use Rattle.avm2_values.specs.declared.refusal.Refusal.TheVariants.{Halt, NoMemory}

-- with these operands on top, of which the last is the top
abbrev pub with_all : List Operand → Work → Work
with_all vs w = record w { stack = reverse vs ++ w.stack }

-- so many are taken, if there are so many
abbrev pub TakesAll : Computed (List Operand) Refusal → ℕ → Work → Work → Type 0
TakesAll (Ok vs) n old new = (length vs ≡ n) × (old ≡ with_all vs new)
TakesAll (Err (Halt o)) n old new = (length old.stack < n) × (o ≡ Fault fault.NotHere)
TakesAll (Err NoMemory) n old new = ⊤

-- and below them a receiver
abbrev pub TakesCall : Computed (Operand × List Operand) Refusal → ℕ → Work → Work → Type 0
TakesCall (Ok call) n old new = (length call.1 ≡ n) × (old ≡ with_all call.1 (with_top call.0 new))
TakesCall (Err (Halt o)) n old new = (length old.stack ≤ n) × (o ≡ Fault fault.NotHere)
TakesCall (Err NoMemory) n old new = ⊤
