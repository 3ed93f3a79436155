-- Operations that may end the play.
use Rattle.std.specs.Prelude.{Bool, Err, List, None, Ok, Option, Result as Computed, Some, [], false, true, ◌∷◌}
use Rattle.flex_base.specs.declared.outcome.MachineFault.{MachineFault}
use Rattle.flex_base.specs.declared.outcome.MachineFault.TheVariants as fault
use Rattle.flex_base.specs.declared.outcome.Outcome.{Outcome}
use Rattle.flex_base.specs.declared.outcome.Outcome.TheVariants.{Fault, Stopped}
use Rattle.flex_base.specs.declared.outcome.Stop.{Stop}
use Rattle.flex_base.specs.declared.value.ObjId.{ObjId}
use Rattle.flex_base.specs.declared.value.Value.{Value}
use Rattle.flex_objects.specs.Entities.{Inside}
use Rattle.flex_world.specs.Objects.{Object}
use Rattle.ui_runtime.specs.Stage.{Stage, inside_at, object_at}
use Rattle.avm2_meaning.specs.declared.heap.Heap.{Heap}
use Rattle.avm2_meaning.specs.declared.operand.Operand.{Operand}
use Rattle.avm2_meaning.specs.declared.operand.Operand.TheVariants.{Plain}

-- goes on with a value, or the play is over
pub data Result (A : Type 0) : Type 0 where
  Goes : (v : A) (h : Heap) → Result A
  Halts : (o : Outcome) → Result A

abbrev pub bind : {A B : Type 0} → Result A → (A → Heap → Result B) → Result B
bind (Goes v h) f = f v h
bind (Halts o) f = Halts o

abbrev pub done : Heap → Result (Unit {0})
done h = Goes tt h

-- the first where the test is true, else the second
abbrev pub choose : {A : Type 0} → Bool → (Heap → Result A) → (Heap → Result A) → Heap → Result A
choose true first second h = first h
choose false first second h = second h

abbrev pub stops : {A : Type 0} → Stop → Heap → Result A
stops cause h = Halts (Stopped cause)

abbrev pub faults : {A : Type 0} → MachineFault → Heap → Result A
faults f h = Halts (Fault f)

-- something isn't there that the verifier or the load is to see to: the code needs what the machine doesn't have
abbrev pub lacks : {A : Type 0} → Heap → Result A
lacks h = faults fault.NotHere h

-- with what has to be there
abbrev pub need : {A B : Type 0} → Option A → Heap → (A → Result B) → Result B
need None h f = lacks h
need (Some x) h f = f x

-- with what has to be there, or else a fault comes
abbrev pub or_fault : {A B : Type 0} → MachineFault → Option A → Heap → (A → Result B) → Result B
or_fault f None h k = faults f h
or_fault f (Some x) h k = k x

-- goes on where a test holds, or else a fault comes
abbrev pub test : MachineFault → Bool → Heap → Result (Unit {0})
test f true h = done h
test f false h = faults f h

-- what is computed of values
abbrev pub given : {A : Type 0} → Computed A Stop → Heap → Result A
given (Ok v) h = Goes v h
given (Err cause) h = stops cause h

-- what the stage does and gives
abbrev pub staged : {A : Type 0} → Heap → Computed (A × Stage) Stop → Result A
staged h (Ok done) = Goes done.0 (record h { stage = done.1 })
staged h (Err cause) = stops cause h

-- with the object of a number
abbrev pub on : {A : Type 0} → ObjId → Heap → (Object → Result A) → Result A
on o h f = need (object_at o h.stage) h f

-- with what is kept for the object of a number
abbrev pub inside : {A : Type 0} → ObjId → Heap → (Inside → Result A) → Result A
inside o h f = need (inside_at o h.stage) h f

-- a value; what stands for a class or a script is of the wrong kind
abbrev pub plain : Operand → Heap → Result Value
plain (Plain v) h = Goes v h
plain _ h = faults fault.WrongKind h

abbrev pub all_plain : List Operand → Heap → Result (List Value)
all_plain [] h = Goes [] h
all_plain (v ∷ vs) h = bind (plain v h) (λ v1 h1. bind (all_plain vs h1) (λ vs1 h2. Goes (v1 ∷ vs1) h2))

-- the same with what a function makes of its value
abbrev pub mapped : {A B : Type 0} → (A → B) → Result A → Result B
mapped f (Goes v h) = Goes (f v) h
mapped f (Halts o) = Halts o
