-- The methods of the catalog, and `trace`.
use Rattle.std.specs.Prelude.{Bool, List, None, Option, Some, [], codes, false, ℕ, ℤ, ◌∷◌}
use Rattle.avm2_program.specs.declared.file.Program.{Program}
use Rattle.component_catalog.specs.Methods.{parameters_of}
use Rattle.component_catalog.specs.declared.class.NativeClass.TheVariants as native
use Rattle.component_catalog.specs.declared.method.NativeMethod.{NativeMethod}
use Rattle.component_catalog.specs.declared.method.NativeMethod.TheVariants as catalog
use Rattle.flex_base.specs.Value.{is_object, to_text}
use Rattle.flex_base.specs.declared.outcome.MachineFault.TheVariants as fault
use Rattle.flex_base.specs.declared.outcome.Stop.TheVariants as stop
use Rattle.flex_base.specs.declared.record.TraceItem.TheVariants as trace
use Rattle.flex_base.specs.declared.value.ObjId.{ObjId}
use Rattle.flex_base.specs.declared.value.Value.{Value}
use Rattle.flex_base.specs.declared.value.Value.TheVariants as value
use Rattle.flex_world.specs.Events.{delivery_stopped_at_once, is_registered, prevented_delivery, prevented_now, stopped_delivery, while_open}
use Rattle.flex_world.specs.Objects.{Delivery, Object, property}
use Rattle.flex_world.specs.Operators.{made_text, spaced_text}
use Rattle.ui_runtime.specs.Events.{listens, marked, unlistens}
use Rattle.ui_runtime.specs.Stage.{Stage}
use Rattle.ui_runtime.specs.Tree.{child}
use Rattle.avm2_meaning.specs.Classes.{is_container_object, is_event_object, is_of}
use Rattle.avm2_meaning.specs.Conversions.{native_arguments, object_number}
use Rattle.avm2_meaning.specs.Dispatch.{begin_dispatch}
use Rattle.avm2_meaning.specs.Effects.{Acted, recorded, silent}
use Rattle.avm2_meaning.specs.declared.effect.Next.{Next}
use Rattle.avm2_meaning.specs.declared.effect.Next.TheVariants as Next
use Rattle.avm2_meaning.specs.Elements.{add, take_out}
use Rattle.avm2_meaning.specs.Frames.{keeps}
use Rattle.avm2_meaning.specs.declared.frame.Dispatch.{Dispatch}
use Rattle.avm2_meaning.specs.declared.frame.Native.{Native}
use Rattle.avm2_meaning.specs.declared.frame.Native.TheVariants as Native
use Rattle.avm2_meaning.specs.Heap.{on_stage}
use Rattle.avm2_meaning.specs.declared.heap.Heap.{Heap}
use Rattle.avm2_meaning.specs.declared.operand.Operand.{Operand}
use Rattle.avm2_meaning.specs.Replies.{gives, gives_nothing, reply}
use Rattle.avm2_meaning.specs.declared.reply.Reply.{Reply}
use Rattle.avm2_meaning.specs.Results.{Goes, Result, bind, choose, given, lacks, mapped, need, on, plain, stops, test}

-- the type of an event that is given
abbrev pub type_given : Value → Heap → Result (List ℕ)
type_given (value.Text kind) h = Goes kind h
type_given value.Null h = stops stop.NullReference h
type_given _ h = lacks h

abbrev pub object_given : Value → Heap → Result ObjId
object_given (value.Ref o) h = Goes o h
object_given value.Null h = stops stop.NullReference h
object_given _ h = lacks h

abbrev pub registered_at : ObjId → List ℕ → ObjId × ℕ → Bool → ℤ → Stage → Stage
registered_at node kind l capture priority s = (listens node kind l capture priority s).1

abbrev pub add_listener : ObjId → List Value → Heap → Result Reply
add_listener node (kind ∷ value.Listener o m ∷ value.Bool capture ∷ value.Int priority ∷ []) h =
    bind (type_given kind h) (λ event h1. gives_nothing (on_stage (registered_at node event (o, m) capture priority) h1))
add_listener node _ h = lacks h

abbrev pub remove_listener : ObjId → List Value → Heap → Result Reply
remove_listener node (kind ∷ value.Listener o m ∷ value.Bool capture ∷ []) h =
    bind (type_given kind h) (λ event h1. gives_nothing (on_stage (unlistens node event (o, m) capture) h1))
remove_listener node _ h = lacks h

abbrev pub has_listener : ObjId → List Value → Heap → Result Reply
has_listener node (kind ∷ []) h = bind (type_given kind h) (λ event h1. on node h1 (λ c. gives (value.Bool (is_registered event c)) h1))
has_listener node _ h = lacks h

-- the answer of a dispatch comes at its end
abbrev pub dispatches : Acted Dispatch → Reply
dispatches a = record { value = None; effect = record a.effect { next = Next.Opens (Native.Dispatches a.work) } }

-- an event is dispatched once
abbrev pub dispatch_given : Bool → ObjId → ObjId → Heap → Result Reply
dispatch_given keeps target e h =
    on e h (λ event.
    need (property event (codes "type")) h (λ kind.
    bind (type_given kind h) (λ _ h1.
    choose event.delivery.dispatched (stops stop.Kind) (λ h2. mapped dispatches (begin_dispatch target e keeps h2)) h1)))

abbrev pub add_element : ObjId → ObjId → Heap → Result Reply
add_element container child h = bind (add container child None h) (λ e h1. reply (value.Ref child) e h1)

abbrev pub is_it : ObjId → Option ObjId → Bool
is_it o None = false
is_it o (Some other) = is_object o other

abbrev pub remove_child : ObjId → ObjId → Heap → Result Reply
remove_child container child h = bind (take_out child container h) (λ e h1. reply (value.Ref child) e h1)

abbrev pub remove_element : ObjId → ObjId → Heap → Result Reply
remove_element container child h = on child h (λ c. choose (is_it container c.parent) (remove_child container child) (stops stop.NotAChild) h)

abbrev pub give_child : Option ObjId → Heap → Result Reply
give_child None h = stops stop.ArrayIndex h
give_child (Some child) h = gives (value.Ref child) h

-- a dispatch that is open is stopped or prevented
abbrev pub mark : ObjId → (Delivery → Delivery) → Heap → Result Reply
mark e f h = gives_nothing (on_stage (marked (while_open f) e) h)

abbrev pub call_alone : NativeMethod → ObjId → Heap → Result Reply
call_alone catalog.RemoveAllElements o h = on o h (λ container. reply value.Undefined (silent (Next.Opens (Native.Empties o container.children))) h)
call_alone catalog.StopPropagation o h = mark o stopped_delivery h
call_alone catalog.StopImmediatePropagation o h = mark o delivery_stopped_at_once h
call_alone catalog.PreventDefault o h = mark o prevented_delivery h
call_alone catalog.IsDefaultPrevented o h = on o h (λ event. gives (value.Bool (prevented_now event.delivery)) h)
call_alone _ o h = lacks h

abbrev pub call_with_object : Bool → NativeMethod → ObjId → ObjId → Heap → Result Reply
call_with_object keeps catalog.DispatchEvent o e h = dispatch_given keeps o e h
call_with_object keeps catalog.AddElement o child h = add_element o child h
call_with_object keeps catalog.RemoveElement o child h = remove_element o child h
call_with_object keeps _ o child h = lacks h

abbrev pub call_with_one : Bool → NativeMethod → ObjId → Value → Heap → Result Reply
call_with_one keeps catalog.GetElementAt o (value.Int n) h = on o h (λ _. give_child (child o n h.stage) h)
call_with_one keeps m o v h = bind (object_given v h) (λ other h1. call_with_object keeps m o other h1)

abbrev pub call_by_count : Bool → NativeMethod → ObjId → List Value → Heap → Result Reply
call_by_count keeps m o [] h = call_alone m o h
call_by_count keeps m o (v ∷ []) h = call_with_one keeps m o v h
call_by_count keeps m o _ h = lacks h

-- a method of the catalog, with all its arguments, which are converted
abbrev pub call_native : Bool → NativeMethod → ObjId → List Value → Heap → Result Reply
call_native keeps catalog.AddEventListener o arguments h = add_listener o arguments h
call_native keeps catalog.RemoveEventListener o arguments h = remove_listener o arguments h
call_native keeps catalog.HasEventListener o arguments h = has_listener o arguments h
call_native keeps m o arguments h = call_by_count keeps m o arguments h

-- the texts of arguments, one after another
abbrev pub texts_of_operands : List Operand → Heap → Result (List (List ℕ))
texts_of_operands [] h = Goes [] h
texts_of_operands (v ∷ vs) h =
    bind (plain v h) (λ v1 h1. bind (given (to_text v1) h1) (λ text h2. bind (texts_of_operands vs h2) (λ texts h3. Goes (text ∷ texts) h3)))

abbrev pub call_trace : List Operand → Heap → Result Reply
call_trace arguments h =
    bind (texts_of_operands arguments h) (λ texts h1.
    bind (given (made_text (spaced_text texts)) h1) (λ text h2.
    reply value.Undefined (recorded (trace.Traced text)) h2))

module _ (p : Program) where
  -- `super` may find a method that the object itself hasn't
  abbrev pub has_method : NativeMethod → Object → Bool
  has_method catalog.AddElement c = is_container_object p c
  has_method catalog.RemoveElement c = is_container_object p c
  has_method catalog.RemoveAllElements c = is_container_object p c
  has_method catalog.GetElementAt c = is_container_object p c
  has_method catalog.StopPropagation c = is_event_object p c
  has_method catalog.StopImmediatePropagation c = is_event_object p c
  has_method catalog.PreventDefault c = is_event_object p c
  has_method catalog.IsDefaultPrevented c = is_event_object p c
  has_method _ c = is_of p native.EventDispatcher c

  -- a method of the catalog is called on a receiver
  abbrev pub call_catalog : Bool → Operand → NativeMethod → List Operand → Heap → Result Reply
  call_catalog keeps receiver m arguments h =
      bind (object_number receiver h) (λ o h1.
      on o h1 (λ object.
      bind (test fault.WrongKind (has_method m object) h1) (λ _ h2.
      bind (native_arguments p (parameters_of m) arguments h2) (λ vs h3.
      call_native keeps m o vs h3))))
