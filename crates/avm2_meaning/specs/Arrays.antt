-- The elements of arrays.
use Rattle.std.specs.Prelude.{Err, List, Ok, Result as Computed, [], unwrap_or, ℤ, ◌∷◌}
use Rattle.flex_base.specs.declared.outcome.MachineFault.TheVariants as fault
use Rattle.flex_base.specs.declared.outcome.Stop.{Stop}
use Rattle.flex_base.specs.declared.outcome.Stop.TheVariants as stop
use Rattle.flex_base.specs.declared.value.ObjId.{ObjId}
use Rattle.flex_base.specs.declared.value.Value.TheVariants as value
use Rattle.flex_world.specs.Objects.{is_array}
use Rattle.ui_runtime.specs.Arrays.{element, popped, pushes as appended, without_popped, writes_element}
use Rattle.ui_runtime.specs.Stage.{Stage}
use Rattle.avm2_meaning.specs.Conversions.{object_number}
use Rattle.avm2_meaning.specs.Heap.{on_stage}
use Rattle.avm2_meaning.specs.declared.heap.Heap.{Heap}
use Rattle.avm2_meaning.specs.declared.operand.Operand.{Operand}
use Rattle.avm2_meaning.specs.declared.operand.Operand.TheVariants.{Plain}
use Rattle.avm2_meaning.specs.Replies.{gives}
use Rattle.avm2_meaning.specs.declared.reply.Reply.{Reply}
use Rattle.avm2_meaning.specs.Results.{Goes, Result, bind, done, faults, on, plain, staged, stops, test}

-- an array, by its number; anything else is of the wrong kind
abbrev pub array_at : ObjId → Heap → Result (Unit {0})
array_at a h = on a h (λ c. test fault.WrongKind (is_array c) h)

abbrev pub push_one : ObjId → List Operand → Heap → Result Reply
push_one a (v ∷ []) h = bind (plain v h) (λ v1 h1. bind (staged h1 (appended a v1 h1.stage)) (λ n h2. gives (value.Int n) h2))
push_one a _ h = faults fault.WrongCount h

-- takes the last element
abbrev pub pop_last : ObjId → Heap → Result Reply
pop_last a h = gives (popped a h.stage) (on_stage (without_popped a) h)

abbrev pub pop_one : ObjId → List Operand → Heap → Result Reply
pop_one a [] h = pop_last a h
pop_one a _ h = faults fault.WrongCount h

-- gives the new length
abbrev pub push : Operand → List Operand → Heap → Result Reply
push receiver arguments h = bind (object_number receiver h) (λ a h1. bind (array_at a h1) (λ _ h2. push_one a arguments h2))

abbrev pub pop : Operand → List Operand → Heap → Result Reply
pop receiver arguments h = bind (object_number receiver h) (λ a h1. bind (array_at a h1) (λ _ h2. pop_one a arguments h2))

-- an element is one of an array, at a whole number
abbrev pub index_of : Operand → Heap → Result ℤ
index_of (Plain (value.Int n)) h = Goes n h
index_of _ h = faults fault.WrongKind h

abbrev pub holder_of : Operand → Heap → Result ObjId
holder_of (Plain value.Undefined) h = stops stop.NullReference h
holder_of (Plain value.Null) h = stops stop.NullReference h
holder_of v h = object_number v h

-- out of range it is Undefined
abbrev pub element_of : Operand → Operand → Heap → Result Operand
element_of holder index h =
    bind (holder_of holder h) (λ a h1.
    bind (array_at a h1) (λ _ h2.
    bind (index_of index h2) (λ n h3.
    Goes (Plain (unwrap_or (element a n h3.stage) value.Undefined)) h3)))

abbrev pub stored_element : Heap → Computed Stage Stop → Result (Unit {0})
stored_element h (Ok s) = done (record h { stage = s })
stored_element h (Err cause) = stops cause h

abbrev pub write_element : Operand → Operand → Operand → Heap → Result (Unit {0})
write_element holder index v h =
    bind (holder_of holder h) (λ a h1.
    bind (array_at a h1) (λ _ h2.
    bind (index_of index h2) (λ n h3.
    bind (plain v h3) (λ v1 h4.
    stored_element h4 (writes_element a n v1 h4.stage)))))
