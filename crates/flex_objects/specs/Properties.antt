-- The properties that an object keeps: its class tells their keys and types, and it has their values.
use Rattle.std.specs.List.{list_all}
use Rattle.std.specs.Option.{option_map_or}
use Rattle.std.specs.Prelude.{Bool, List, None, Option, Some, [], false, if◌then◌else◌, is_none, ℕ, ◌++◌, ◌∷◌}
use Rattle.std.specs.Str.{bytes_eq}
use Rattle.component_catalog.specs.Properties.{Property, properties, property_of}
use Rattle.component_catalog.specs.declared.property.PropertyRow.{PropertyRow}
use Rattle.component_catalog.specs.declared.class.NativeClass.{NativeClass}
use Rattle.flex_base.specs.Lists.{one_later}
use Rattle.flex_base.specs.Value.{same}
use Rattle.flex_base.specs.declared.value.Value.{Value}
use Rattle.flex_world.specs.Making.{is_computed, native_field}
use Rattle.flex_world.specs.Objects.{Field, field_named, with_value}
use Rattle.flex_objects.specs.declared.slots.Slot.{Slot}
use Rattle.flex_objects.specs.declared.properties.Stored.{Stored}
use Rattle.flex_objects.specs.declared.properties.Stored.TheVariants.{Equal, Silent, Watched}

-- the property of a new object, under its key
abbrev pub slot_field : List ℕ → Slot → Field
slot_field key slot = record {
  name = key;
  text = slot.text;
  type = slot.kind;
  public = slot.public;
  bindable = slot.bindable;
  read_only = slot.read_only;
  is_slot = slot.is_slot;
  value = slot.start;
}

-- no property has this key
abbrev pub is_free : List Field → List ℕ → Bool
is_free fields key = is_none (field_named key fields)

-- no property has a name that a class of the catalog has beside its base
abbrev pub has_room_for : NativeClass → List Field → Bool
has_room_for class fields = list_all (λ (p : Property). is_free fields p.name) (properties class)

-- with the property of this name that objects of a class of the catalog have, where they keep it
abbrev pub with_row : List Field → List ℕ → Option PropertyRow → List Field
with_row fields name None = fields
with_row fields name (Some row) = fields ++ native_field (record { name = name; row = row }) ∷ []

abbrev pub with_named : NativeClass → List Field → List ℕ → List Field
with_named class fields name = if is_computed name then fields else with_row fields name (property_of class name)

abbrev pub holding : Value → Field → Field
holding v f = record f { value = v }

-- the fields, one after another with these values
abbrev pub filled : List Field → List Value → List Field
filled (f ∷ fields) (v ∷ values) = holding v f ∷ filled fields values
filled _ _ = []

-- a list that may not be there
abbrev pub items_of : {A : Type 0} → Option (List A) → List A
items_of None = []
items_of (Some items) = items

-- whether a write changes a property, and whether bindings start then; a value that equals the old one by `===` changes nothing
abbrev pub stored : Value → Field → Stored
stored v f = if same f.value v then Equal else if f.bindable then Watched else Silent

-- the fields after the write of a value under a key
abbrev pub after_write : List ℕ → Value → List Field → List Field
after_write key v fields = option_map_or (λ (f : Field). if same f.value v then fields else with_value key v fields) (field_named key fields) fields

-- the place of the property of a key
abbrev pub place_of : List ℕ → List Field → Option ℕ
place_of key [] = None
place_of key (f ∷ fields) = if bytes_eq f.name key then Some 0 else one_later (place_of key fields)

abbrev pub is_watched : Option Field → Bool
is_watched None = false
is_watched (Some f) = f.bindable

-- a variable or an id stands there
abbrev pub is_slot_in : Option Field → Bool
is_slot_in None = false
is_slot_in (Some f) = f.is_slot
