-- Making objects, and the arguments of native constructors.
use Rattle.std.specs.Prelude.{Bool, List, None, Option, Some, [], false, if◌then◌else◌, length, true, ℕ, ◌+◌, ◌∷◌}
use Rattle.avm2_program.specs.declared.class.FileClass.{FileClass}
use Rattle.avm2_program.specs.declared.file.Program.{Program}
use Rattle.component_catalog.specs.Events.{Event}
use Rattle.component_catalog.specs.declared.class.NativeClass.{NativeClass}
use Rattle.flex_base.specs.Value.{and_then}
use Rattle.flex_base.specs.declared.outcome.MachineFault.TheVariants as fault
use Rattle.flex_base.specs.declared.outcome.Stop.TheVariants as stop
use Rattle.flex_base.specs.declared.record.TraceItem.{TraceItem}
use Rattle.flex_base.specs.declared.record.TraceItem.TheVariants as trace
use Rattle.flex_base.specs.declared.value.ObjId.{ObjId}
use Rattle.flex_base.specs.declared.value.Value.{Value}
use Rattle.flex_base.specs.declared.value.Value.TheVariants as value
use Rattle.flex_objects.specs.Entities.{Entity, Shape, new_array as empty_array}
use Rattle.flex_world.specs.Classes.{is_event}
use Rattle.flex_world.specs.declared.kind.Class.{Class}
use Rattle.flex_world.specs.declared.kind.StaticType.{StaticType}
use Rattle.flex_world.specs.Conversions.{constructor_parameters}
use Rattle.ui_runtime.specs.Events.{initialises}
use Rattle.ui_runtime.specs.Making.{makes, pays, takes_number}
use Rattle.stage_objects.specs.Entities.{with_object}
use Rattle.avm2_meaning.specs.Calls.{call_of, prepare}
use Rattle.avm2_meaning.specs.Classes.{class_name, file_class_at, file_shape, native_shape}
use Rattle.avm2_meaning.specs.Conversions.{native_arguments}
use Rattle.avm2_meaning.specs.Effects.{Acted, acted, effect, with_top}
use Rattle.avm2_meaning.specs.declared.effect.Effect.{Effect}
use Rattle.avm2_meaning.specs.declared.effect.Next.{Next}
use Rattle.avm2_meaning.specs.declared.effect.Next.TheVariants as Next
use Rattle.avm2_meaning.specs.declared.work.Work.{Work}
use Rattle.avm2_meaning.specs.Heap.{on_stage}
use Rattle.avm2_meaning.specs.declared.heap.Heap.{Heap}
use Rattle.avm2_meaning.specs.Operands.{ref}
use Rattle.avm2_meaning.specs.declared.operand.Operand.{Operand}
use Rattle.avm2_meaning.specs.Results.{Goes, Result, bind, choose, done, faults, mapped, need, staged, stops}

abbrev pub array_of : List Value → Entity
array_of elements = with_object (λ c. record c { elements = elements }) empty_array

-- an array costs a cell, and one for each element
abbrev pub new_array : List Value → Heap → Result ObjId
new_array elements h = staged h (and_then (pays (1 + length elements) h.stage) (takes_number (array_of elements)))

-- an object takes 16 cells, one for each slot that isn't hidden, and the next number
abbrev pub allocate_as : Shape → Heap → Result ObjId
allocate_as shape h = staged h (makes shape h.stage)

-- the type, and whether it bubbles and can be cancelled
abbrev pub begin_event : ObjId → List Value → Heap → Result (Unit {0})
begin_event e (value.Text kind ∷ value.Bool bubbles ∷ value.Bool cancelable ∷ []) h = done (on_stage (initialises e kind bubbles cancelable) h)
begin_event e _ h = done h

abbrev pub lacks_type : List Value → Bool
lacks_type (value.Null ∷ _) = true
lacks_type _ = false

module _ (p : Program) where
  -- events make no record
  abbrev pub made_item : Class → ObjId → Option TraceItem
  made_item class o = if is_event p.bases class then None else Some (trace.Made o (class_name p class))

  -- the arguments of a native constructor: an event takes its fields, and stops at a type that is null; the others take nothing
  abbrev pub constructor_arguments : NativeClass → List Operand → Heap → Result (List Value)
  constructor_arguments class arguments h =
      bind (native_arguments p (constructor_parameters class) arguments h) (λ vs h1.
      choose (lacks_type vs) (stops stop.NullReference) (Goes vs) h1)

  -- a native constructor is no activity
  abbrev pub construct_native : NativeClass → List Operand → Work → Heap → Result (Acted Work)
  construct_native class arguments w h =
      bind (constructor_arguments class arguments h) (λ vs h1.
      bind (allocate_as (native_shape p class) h1) (λ o h2.
      bind (begin_event o vs h2) (λ _ h3.
      Goes (acted (effect Next.On (made_item (Class.Native class) o)) (with_top (ref o) w)) h3)))

  -- an object, and the run of its constructor
  abbrev pub constructs : ℕ → FileClass → List Operand → ObjId → Effect
  constructs k class arguments o = effect (Next.Calls (call_of class.constructor (ref o) arguments false)) (made_item (Class.File k) o)

  -- an object of a class of the file is made, and then its constructor runs: this is the object, and what it comes to
  abbrev pub construct_file : ℕ → List Operand → Heap → Result (Acted ObjId)
  construct_file k arguments h =
      need (file_class_at p k) h (λ class.
      bind (prepare p class.constructor arguments h) (λ converted h1.
      bind (allocate_as (file_shape p k class) h1) (λ o h2.
      Goes (acted (constructs k class converted o) o) h2)))

  abbrev pub with_made_object : Work → Acted ObjId → Acted Work
  with_made_object w a = acted a.effect (with_top (ref a.work) w)

  -- an object of a class value; the native script's `int`, `Boolean`, `String` and `Array` make none
  abbrev pub construct : StaticType → List Operand → Work → Heap → Result (Acted Work)
  construct (StaticType.Object (Class.Native class)) arguments w h = construct_native class arguments w h
  construct (StaticType.Object (Class.File k)) arguments w h = mapped (with_made_object w) (construct_file k arguments h)
  construct _ arguments w h = faults fault.WrongKind h

  -- an event that the player makes
  abbrev pub make_event : Event → Heap → Result ObjId
  make_event event h =
      bind (allocate_as (native_shape p event.row.class) h) (λ e h1.
      Goes e (on_stage (initialises e event.name event.row.bubbles event.row.cancelable) h1))
