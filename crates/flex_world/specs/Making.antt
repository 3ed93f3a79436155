-- What a new object is.
use Rattle.std.specs.List.{filter}
use Rattle.std.specs.Prelude.{Bool, List, None, [], codes, false, is_some, length, map, not, pos, ℕ, ◌&&◌, ◌+◌, ◌||◌}
use Rattle.std.specs.Str.{bytes_eq}
use Rattle.flex_base.specs.declared.value.Value.{Value}
use Rattle.flex_base.specs.declared.value.Value.TheVariants as value
use Rattle.component_catalog.specs.Properties.{Property, own_property, properties}
use Rattle.component_catalog.specs.declared.class.NativeClass.{NativeClass}
use Rattle.component_catalog.specs.declared.value.StartValue.{StartValue}
use Rattle.component_catalog.specs.declared.value.StartValue.TheVariants as start
use Rattle.flex_world.specs.Classes.{static_type}
use Rattle.flex_world.specs.declared.kind.Class.{Class}
use Rattle.flex_world.specs.declared.kind.StaticType.{StaticType}
use Rattle.flex_world.specs.Objects.{Delivery, Field, Keeping, Kind, Object}

-- what a variable of a type holds at first
abbrev pub start_of_type : StaticType → Value
start_of_type StaticType.Int = value.Int (pos 0)
start_of_type StaticType.Boolean = value.Bool false
start_of_type _ = value.Null

-- a starting value of the catalog
abbrev pub start_value : StartValue → Value
start_value start.Null = value.Null
start_value (start.Bool b) = value.Bool b
start_value (start.Int n) = value.Int n
start_value start.EmptyText = value.Text []

-- a property that the objects of the catalog don't keep
abbrev pub is_computed : List ℕ → Bool
is_computed name = bytes_eq name (codes "parent") || bytes_eq name (codes "numElements")

abbrev pub native_field : Property → Field
native_field p = record {
  name = p.name;
  text = p.name;
  type = static_type p.row.kind;
  public = p.row.public;
  bindable = p.row.bindable;
  read_only = p.row.read_only;
  is_slot = false;
  value = start_value p.row.start;
}

-- the fields that a class of the catalog has beside those of its base
abbrev pub native_fields : NativeClass → List Field
native_fields class = map native_field (filter (λ (p : Property). not (is_computed p.name)) (properties class))

-- a class of the catalog computes a property of this name
abbrev pub native_computes : List ℕ → NativeClass → Bool
native_computes name class = is_computed name && is_some (own_property class name)

abbrev pub computes : List ℕ → Class → Bool
computes name (Class.Native class) = native_computes name class
computes name (Class.File k) = false

-- the slots, each of which costs a cell
abbrev pub slots : List Field → List Field
slots fields = filter (λ f. f.is_slot) fields

-- how many cells an object with these fields costs
abbrev pub object_cost : List Field → ℕ
object_cost fields = 16 + length (slots fields)

abbrev pub undelivered : Delivery
undelivered = record { dispatched = false; is_open = false; cancelable = false; stopped = false; stopped_at_once = false; prevented = false; answer = false }

abbrev pub keeps_nothing : Keeping
keeps_nothing = record { enabled = []; open_bindings = []; entered = false; running = false; kept = None }

abbrev pub new_object : Kind → List Field → List Value → Object
new_object kind fields elements = record {
  kind = kind;
  fields = fields;
  elements = elements;
  parent = None;
  children = [];
  listeners = [];
  was_added = false;
  spot = None;
  delivery = undelivered;
  keeping = keeps_nothing;
}
