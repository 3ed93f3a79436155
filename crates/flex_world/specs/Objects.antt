-- The objects of a play, and what is looked up and changed in them.
use Rattle.std.specs.List.{find, list_any}
use Rattle.std.specs.Prelude.{Bool, List, None, Option, Some, [], codes, false, if◌then◌else◌, length, not, pos, suc, true, ℕ, ℤ, ◌&&◌, ◌==◌, ◌∷◌}
use Rattle.std.specs.Str.{bytes_eq}
use Rattle.flex_base.specs.Events.{ancestors}
use Rattle.flex_base.specs.Lists.{changed_entry, entry}
use Rattle.flex_base.specs.Value.{is_object, ref_of}
use Rattle.flex_base.specs.declared.value.ObjId.{ObjId}
use Rattle.flex_base.specs.declared.value.Value.{Value}
use Rattle.flex_base.specs.declared.value.Value.TheVariants as value
use Rattle.flex_world.specs.declared.kind.Class.{Class}
use Rattle.flex_world.specs.declared.kind.StaticType.{StaticType}

-- a property that an object keeps
pub record Field : Type 0 where
  -- its key
  pub name : List ℕ
  -- what records print
  pub text : List ℕ
  pub type : StaticType
  pub public : Bool
  pub bindable : Bool
  pub read_only : Bool
  -- it is a variable or an id of a class of the file, and no property of the catalog
  pub is_slot : Bool
  pub value : Value

-- what an object is
pub data Kind : Type 0 where
  Instance_of : (class : Class) → Kind
  An_array : Kind

-- a method of an object
pub record Listener : Type 0 where
  pub object : ObjId
  pub method : ℕ

-- a listener that is registered for the events of a type: for the first phase, or for the others
pub record Registration : Type 0 where
  pub event : List ℕ
  pub object : ObjId
  pub method : ℕ
  pub capture : Bool
  pub priority : ℤ

-- where an object was last added as a declared child: to this container, by this document, as the declaration of this number
pub record Spot : Type 0 where
  pub container : ObjId
  pub document : ObjId
  pub number : ℕ

-- how far the dispatch of an event has come
pub record Delivery : Type 0 where
  pub dispatched : Bool
  pub is_open : Bool
  -- whether it could be cancelled when its dispatch began
  pub cancelable : Bool
  pub stopped : Bool
  pub stopped_at_once : Bool
  pub prevented : Bool
  -- what `isDefaultPrevented` answers after its dispatch
  pub answer : Bool

-- what a document keeps of its bindings, by number, and of its states
pub record Keeping : Type 0 where
  pub enabled : List ℕ
  pub open_bindings : List ℕ
  -- it has entered its first state
  pub entered : Bool
  -- a change of its state runs
  pub running : Bool
  -- the state that was asked for meanwhile
  pub kept : Option (List ℕ)

pub record Object : Type 0 where
  pub kind : Kind
  pub fields : List Field
  -- of an array
  pub elements : List Value
  pub parent : Option ObjId
  pub children : List ObjId
  -- in order of registration
  pub listeners : List Registration
  -- it was added to a parent at some time
  pub was_added : Bool
  pub spot : Option Spot
  -- of an event
  pub delivery : Delivery
  -- of a document
  pub keeping : Keeping

-- the object with a number: 1 for the first that was made
abbrev pub object_at : List Object → ObjId → Option Object
object_at objects o = entry objects o.0

-- the objects, of which the one with a number is changed
abbrev pub changed_object : (Object → Object) → ObjId → List Object → List Object
changed_object f o objects = changed_entry f objects o.0

-- the number of the next object that is made
abbrev pub next_object : List Object → ObjId
next_object objects = record { 0 = suc (length objects) }

abbrev pub field_named : List ℕ → List Field → Option Field
field_named name fields = find (λ f. bytes_eq f.name name) fields

-- the fields with a new value under a name
abbrev pub with_value : List ℕ → Value → List Field → List Field
with_value name v [] = []
with_value name v (f ∷ fields) = if bytes_eq f.name name then record f { value = v } ∷ fields else f ∷ with_value name v fields

abbrev pub ref_or_null : Option ObjId → Value
ref_or_null None = value.Null
ref_or_null (Some o) = value.Ref o

-- a number of objects, or a place among them
abbrev pub count : ℕ → Value
count n = value.Int (pos n)

-- a property that isn't kept, but is where an object stands or how many children it has
abbrev pub computed_property : Object → List ℕ → Option Value
computed_property c name =
    if bytes_eq name (codes "parent") then Some (ref_or_null c.parent)
    else if bytes_eq name (codes "numElements") then Some (count (length c.children))
    else None

abbrev pub property_or : Option Field → Option Value → Option Value
property_or None other = other
property_or (Some f) other = Some f.value

-- the value of a property
abbrev pub property : Object → List ℕ → Option Value
property c name = property_or (field_named name c.fields) (computed_property c name)

abbrev pub text_in : Option Value → Option (List ℕ)
text_in (Some (value.Text text)) = Some text
text_in _ = None

abbrev pub is_true : Option Value → Bool
is_true (Some (value.Bool b)) = b
is_true _ = false

-- an array has no class
abbrev pub class_of_kind : Kind → Option Class
class_of_kind (Instance_of class) = Some class
class_of_kind An_array = None

abbrev pub object_class : Object → Option Class
object_class c = class_of_kind c.kind

abbrev pub is_array_kind : Kind → Bool
is_array_kind (Instance_of class) = false
is_array_kind An_array = true

abbrev pub is_array : Object → Bool
is_array c = is_array_kind c.kind

abbrev pub parent_of : Option Object → Option ObjId
parent_of None = None
parent_of (Some c) = c.parent

-- an object's ancestors, the nearest first
abbrev pub ancestors_of : List Object → ObjId → List ObjId
ancestors_of objects o = ancestors (λ other. parent_of (object_at objects other)) (length objects) o

abbrev pub is_number_among : ℕ → List ℕ → Bool
is_number_among n numbers = list_any (λ m. m == n) numbers

-- the numbers without the first that is this one
abbrev pub without_number : ℕ → List ℕ → List ℕ
without_number n [] = []
without_number n (m ∷ numbers) = if m == n then numbers else m ∷ without_number n numbers

abbrev pub is_object_among : ObjId → List ObjId → Bool
is_object_among o objects = list_any (is_object o) objects

-- `currentState`, the property of the catalog that changes a document's state
abbrev pub current_state : List ℕ
current_state = codes "currentState"

abbrev pub is_state_field : Field → Bool
is_state_field f = bytes_eq f.name current_state && not f.is_slot

abbrev pub can_be_written : Field → Bool
can_be_written f = not f.read_only

-- a binding of a document, by the document's number and its own
pub record Watcher : Type 0 where
  pub document : ObjId
  pub number : ℕ

abbrev pub watcher : ObjId → ℕ → Watcher
watcher document number = record { document = document; number = number }

-- the object in a slot; a watched chain goes through slots alone
abbrev pub object_in_slot : Field → Option ObjId
object_in_slot f = if f.is_slot then ref_of f.value else None

-- the object that was made next
abbrev pub following : ObjId → ObjId
following o = record { 0 = suc o.0 }
