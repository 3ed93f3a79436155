-- What the stage keeps for an object: the object that the source knows, and what the source knows nothing of.
use Rattle.std.specs.Prelude.{Bool, List, None, Option, Some, [], false, if◌then◌else◌, is_some, nat_lt, negsuc, option_map, pos, slice_get, true, ℕ, ℤ, ◌&&◌, ◌∷◌}
use Rattle.component_catalog.specs.Classes.{or_else}
use Rattle.component_catalog.specs.Properties.{property_of}
use Rattle.component_catalog.specs.declared.class.NativeClass.{NativeClass}
use Rattle.flex_base.specs.declared.value.ObjId.{ObjId}
use Rattle.flex_base.specs.declared.value.Value.{Value}
use Rattle.flex_world.specs.Children.{joined_to}
use Rattle.flex_world.specs.declared.kind.Class.{Class}
use Rattle.flex_objects.specs.Properties.{after_write, stored}
use Rattle.flex_objects.specs.declared.properties.Stored.{Stored}
use Rattle.flex_world.specs.Making.{is_computed, new_object}
use Rattle.flex_world.specs.Objects.{An_array, Field, Instance_of, Keeping, Kind, Listener, Object, Spot, computed_property, field_named, without_number}

-- what objects of a class have at first: the properties that the source knows, and those in the namespace of the runtime
pub record Shape : Type 0 where
  pub class : Class
  -- the nearest class of the catalog among the class and its bases
  pub native : Option NativeClass
  pub fields : List Field
  pub hidden : List Field

-- a state that a document registered, and what is called when it is left and entered
pub record RegisteredState : Type 0 where
  pub name : List ℕ
  pub leave : Listener
  pub enter : Listener

-- a binding that a document enabled: its number, that of its counterpart, and what runs it
pub record EnabledBinding : Type 0 where
  pub number : ℕ
  pub pair : Option ℕ
  pub method : Listener

-- what of an object the source knows nothing of
pub record Inside : Type 0 where
  pub native : Option NativeClass
  -- the properties in the namespace of the runtime
  pub hidden : List Field
  -- of a document: it has begun to enter its first state
  pub begun : Bool
  -- its states, in order of registration
  pub states : List RegisteredState
  -- its bindings, in the order in which they were enabled
  pub bindings : List EnabledBinding

pub record Entity : Type 0 where
  pub object : Object
  pub inside : Inside

abbrev pub new_entity : Kind → Option NativeClass → List Field → List Field → Entity
new_entity kind native fields hidden = record { object = new_object kind fields []; inside = record { native = native; hidden = hidden; begun = false; states = []; bindings = [] } }

abbrev pub new_array : Entity
new_array = new_entity An_array None [] []

abbrev pub new_instance : Shape → Entity
new_instance shape = new_entity (Instance_of shape.class) shape.native shape.fields shape.hidden

-- an array has no class
abbrev pub kind_of : Option Class → Kind
kind_of None = An_array
kind_of (Some class) = Instance_of class

-- a class of the catalog computes a property of this name
abbrev pub computes : Option NativeClass → List ℕ → Bool
computes None name = false
computes (Some class) name = is_computed name && is_some (property_of class name)

-- the property that an object keeps under a key, hidden or not
abbrev pub kept : List ℕ → Entity → Option Field
kept key e = or_else (field_named key e.object.fields) (field_named key e.inside.hidden)

abbrev pub computed : List ℕ → Entity → Option Value
computed key e = if computes e.inside.native key then computed_property e.object key else None

-- the value of a property under a key
abbrev pub value_of : List ℕ → Entity → Option Value
value_of key e = or_else (option_map (λ (f : Field). f.value) (kept key e)) (computed key e)

abbrev pub with_fields : List Field → Entity → Entity
with_fields fields e = record e { object = record e.object { fields = fields } }

abbrev pub with_hidden : List Field → Entity → Entity
with_hidden hidden e = record e { inside = record e.inside { hidden = hidden } }

-- what the write of a property comes to, hidden or not
abbrev pub stored_in : List ℕ → Value → Entity → Option Stored
stored_in key v e = option_map (stored v) (kept key e)

abbrev pub after_write_in : List ℕ → Value → Entity → Entity
after_write_in key v e =
    if is_some (field_named key e.object.fields) then with_fields (after_write key v e.object.fields) e
    else with_hidden (after_write key v e.inside.hidden) e

-- the object is added to a container, with a new spot or the one that it has
abbrev pub added_to : ObjId → Option Spot → Entity → Entity
added_to container spot e = record e { object = joined_to container spot e.object }

-- the element at an index
abbrev pub element_at : List Value → ℤ → Option Value
element_at elements (pos n) = slice_get elements n
element_at elements (negsuc n) = None

abbrev pub listener : ObjId → ℕ → Listener
listener o m = record { object = o; method = m }

-- a number at its place among others in order
abbrev pub insert_number : ℕ → List ℕ → List ℕ
insert_number n [] = n ∷ []
insert_number n (first ∷ others) = if nat_lt n first then n ∷ first ∷ others else first ∷ insert_number n others

abbrev pub with_enabled : ℕ → Keeping → Keeping
with_enabled n k = record k { enabled = insert_number n k.enabled }

abbrev pub with_open : ℕ → Keeping → Keeping
with_open n k = record k { open_bindings = n ∷ k.open_bindings }

abbrev pub without_open : ℕ → Keeping → Keeping
without_open n k = record k { open_bindings = without_number n k.open_bindings }

abbrev pub with_kept : List ℕ → Keeping → Keeping
with_kept name k = record k { kept = Some name }

-- a change of the state runs
abbrev pub begun : Keeping → Keeping
begun k = record k { running = true }

-- the change has ended, and the name that was kept is taken
abbrev pub ended : Keeping → Keeping
ended k = record k { entered = true; running = false; kept = None }
