-- What calls of the machine come to, against their definitions. After want of memory nothing is promised.
use Rattle.std.specs.Prelude.{Bool, Err, Ok, Result as Computed, [], if◌then◌else◌, ◌≡◌, ⊤}
use Rattle.flex_base.specs.declared.memory.NoMemory.{NoMemory as Wanted}
use Rattle.flex_base.specs.declared.outcome.MachineFault.TheVariants as fault
use Rattle.flex_base.specs.declared.outcome.Outcome.TheVariants.{Fault, Stopped}
use Rattle.flex_base.specs.declared.outcome.RunRefusal.{RunRefusal}
use Rattle.flex_base.specs.declared.outcome.RunRefusal.TheVariants as refusal
use Rattle.avm2_meaning.specs.Act.{pop_operand}
use Rattle.avm2_meaning.specs.Effects.{goes_on, Acted, acted, silent, with_top}
use Rattle.avm2_meaning.specs.declared.effect.Next.{Next}
use Rattle.avm2_meaning.specs.declared.effect.Next.TheVariants as Next
use Rattle.avm2_meaning.specs.declared.heap.Heap.{Heap}
use Rattle.avm2_meaning.specs.Results.{Goes, Halts, Result}
use Rattle.avm2_meaning.specs.declared.operand.Operand.{Operand}
use Rattle.avm2_meaning.specs.declared.work.Work.{Work}
use Rattle.avm2_values.specs.declared.refusal.Refusal.{Refusal}
use Rattle.avm2_values.specs.declared.refusal.Refusal.TheVariants.{Halt, NoMemory}

-- a call that gives a value, and leaves this heap
abbrev pub Gives : {A : Type 0} → Computed A Refusal → Heap → Result A → Type 0
Gives (Ok v) h r = r ≡ Goes v h
Gives (Err (Halt o)) h r = r ≡ Halts o
Gives (Err NoMemory) h r = ⊤

-- a call that gives nothing but what it leaves
abbrev pub Leaves : {A : Type 0} → Computed (Unit {0}) Refusal → A → Heap → Result A → Type 0
Leaves (Ok _) v h r = r ≡ Goes v h
Leaves (Err (Halt o)) v h r = r ≡ Halts o
Leaves (Err NoMemory) v h r = ⊤

-- what refuses an operation on values
abbrev pub as_refusal : RunRefusal → Refusal
as_refusal (refusal.Stop cause) = Halt (Stopped cause)
as_refusal refusal.NoMemory = NoMemory

-- the top of the stack is taken off, if there is one
abbrev pub Takes : Computed Operand Refusal → Work → Work → Type 0
Takes (Ok v) old new = old ≡ with_top v new
Takes (Err (Halt o)) old new = (old.stack ≡ []) × (o ≡ Fault fault.NotHere)
Takes (Err NoMemory) old new = ⊥

-- an operand is put on the stack
abbrev pub Pushes : Computed (Unit {0}) Wanted → Operand → Work → Work → Type 0
Pushes (Ok _) v old new = new ≡ with_top v old
Pushes (Err _) v old new = ⊤

-- an instruction that leaves this work and this heap, and goes on
abbrev pub GoesOn : Computed (Unit {0}) Refusal → Work → Heap → Result (Acted Work) → Type 0
GoesOn answer w h r = Leaves answer (acted (silent Next.On) w) h r

-- a branch, which is taken where this is true
abbrev pub Branches : Computed Bool Refusal → Work → Heap → Result (Acted Work) → Type 0
Branches (Ok taken) w h r = r ≡ Goes (acted (silent (if taken then Next.Branches else Next.On)) w) h
Branches (Err (Halt o)) w h r = r ≡ Halts o
Branches (Err NoMemory) w h r = ⊤

-- drops the top of the stack
abbrev pub act_pop : Work → Heap → Result (Acted Work)
act_pop w h = pop_operand w h (λ v w1. goes_on w1 h)
