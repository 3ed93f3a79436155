-- The methods of the catalog.
use Rattle.std.specs.Prelude.{Bool, List, None, Option, Some, [], codes, false, ℕ, ◌∷◌}
use Rattle.flex_base.specs.Value.{is_object}
use Rattle.flex_base.specs.declared.outcome.Stop.TheVariants as stop
use Rattle.flex_base.specs.declared.value.ObjId.{ObjId}
use Rattle.flex_base.specs.declared.value.Value.{Value}
use Rattle.flex_base.specs.declared.value.Value.TheVariants as value
use Rattle.component_catalog.specs.declared.method.NativeMethod.{NativeMethod}
use Rattle.component_catalog.specs.declared.method.NativeMethod.TheVariants as catalog
use Rattle.flex_world.specs.Children.{child_at}
use Rattle.flex_world.specs.Events.{delivery_stopped_at_once, is_registered, prevented_delivery, prevented_now, registration, stopped_delivery, while_open}
use Rattle.flex_world.specs.Objects.{Delivery, property}
use Rattle.flex_meaning.specs.Activities.{Context}
use Rattle.flex_meaning.specs.Dispatch.{dispatch}
use Rattle.flex_meaning.specs.Elements.{add_child, take_out}
use Rattle.flex_meaning.specs.Results.{Goes, Result, Stuck, bind, choose, each, need, on, stops}
use Rattle.flex_meaning.specs.World.{World, change_delivery, listen, unlisten}

-- the type of an event that is given
abbrev pub type_given : Value → World → Result (List ℕ)
type_given (value.Text kind) w = Goes kind w
type_given value.Null w = stops stop.NullReference w
type_given _ w = Stuck w

abbrev pub object_given : Value → World → Result ObjId
object_given (value.Ref o) w = Goes o w
object_given value.Null w = stops stop.NullReference w
object_given _ w = Stuck w

-- no value
abbrev pub nothing : World → Result Value
nothing w = Goes value.Undefined w

abbrev pub add_listener : ObjId → List Value → World → Result Value
add_listener node (kind ∷ value.Listener o m ∷ value.Bool capture ∷ value.Int priority ∷ []) w =
    bind (type_given kind w) (λ event w1. nothing (listen node (registration event o m capture priority) w1))
add_listener node _ w = Stuck w

abbrev pub remove_listener : ObjId → List Value → World → Result Value
remove_listener node (kind ∷ value.Listener o m ∷ value.Bool capture ∷ []) w = bind (type_given kind w) (λ event w1. nothing (unlisten node event o m capture w1))
remove_listener node _ w = Stuck w

abbrev pub has_listener : ObjId → List Value → World → Result Value
has_listener node (kind ∷ []) w = bind (type_given kind w) (λ event w1. on node w1 (λ c. Goes (value.Bool (is_registered event c)) w1))
has_listener node _ w = Stuck w

abbrev pub is_it : ObjId → Option ObjId → Bool
is_it o None = false
is_it o (Some other) = is_object o other

abbrev pub remove_element : ObjId → ObjId → World → Result Value
remove_element container child w =
    on child w (λ c. choose (is_it container c.parent) (λ w1. bind (take_out child w1) (λ _ w2. Goes (value.Ref child) w2)) (stops stop.NotAChild) w)

abbrev pub get_element : Option ObjId → World → Result Value
get_element None w = stops stop.ArrayIndex w
get_element (Some child) w = Goes (value.Ref child) w

-- a dispatch that is open is stopped or prevented
abbrev pub mark : ObjId → (Delivery → Delivery) → World → Result Value
mark e f w = nothing (change_delivery e (while_open f) w)

module _ (c : Context) where
  -- an event is dispatched once
  abbrev pub dispatch_given : ObjId → ObjId → World → Result Value
  dispatch_given target e w =
      on e w (λ event.
      need (property event (codes "type")) w (λ kind.
      bind (type_given kind w) (λ _ w1.
      choose event.delivery.dispatched (stops stop.Kind) (λ w2. bind (dispatch c target e w2) (λ left w3. Goes (value.Bool left) w3)) w1)))

  abbrev pub call_with_object : NativeMethod → ObjId → ObjId → World → Result Value
  call_with_object catalog.DispatchEvent o e w = dispatch_given o e w
  call_with_object catalog.AddElement o child w = bind (add_child c o child None w) (λ _ w1. Goes (value.Ref child) w1)
  call_with_object catalog.RemoveElement o child w = remove_element o child w
  call_with_object _ o child w = Stuck w

  abbrev pub call_alone : NativeMethod → ObjId → World → Result Value
  call_alone catalog.RemoveAllElements o w = on o w (λ container. bind (each take_out container.children w) (λ _ w1. nothing w1))
  call_alone catalog.StopPropagation o w = mark o stopped_delivery w
  call_alone catalog.StopImmediatePropagation o w = mark o delivery_stopped_at_once w
  call_alone catalog.PreventDefault o w = mark o prevented_delivery w
  call_alone catalog.IsDefaultPrevented o w = on o w (λ event. Goes (value.Bool (prevented_now event.delivery)) w)
  call_alone _ o w = Stuck w

  abbrev pub call_with_one : NativeMethod → ObjId → Value → World → Result Value
  call_with_one catalog.GetElementAt o (value.Int n) w = on o w (λ container. get_element (child_at container.children n) w)
  call_with_one m o v w = bind (object_given v w) (λ given w1. call_with_object m o given w1)

  abbrev pub call_by_count : NativeMethod → ObjId → List Value → World → Result Value
  call_by_count m o [] w = call_alone m o w
  call_by_count m o (v ∷ []) w = call_with_one m o v w
  call_by_count m o _ w = Stuck w

  -- a method of the catalog, with all its arguments, which are converted
  abbrev pub call_native : NativeMethod → ObjId → List Value → World → Result Value
  call_native catalog.AddEventListener o arguments w = add_listener o arguments w
  call_native catalog.RemoveEventListener o arguments w = remove_listener o arguments w
  call_native catalog.HasEventListener o arguments w = has_listener o arguments w
  call_native m o arguments w = call_by_count m o arguments w
