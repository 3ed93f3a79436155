-- The objects of a play, and what is done with them.
use Rattle.std.specs.Prelude.{ℕ, suc, ◌+◌, List, [], ◌∷◌, ◌++◌, length, Bool, true, false, if◌then◌else◌, nat_lt, ◌==◌, Option, Some, None, Result, Ok, Err, ◌≡◌, codes}
use Rattle.std.specs.Str.{bytes_eq}
use Rattle.flex_base.specs.declared.memory.NoMemory.{NoMemory}
use Rattle.flex_base.specs.declared.outcome.RunRefusal.{RunRefusal}
use Rattle.flex_base.specs.declared.outcome.RunRefusal.TheVariants as refusal
use Rattle.flex_base.specs.declared.outcome.Stop.TheVariants as stop
use Rattle.flex_base.specs.declared.value.ObjId.{ObjId}
use Rattle.flex_base.specs.declared.value.Value.{Value}
use Rattle.flex_base.specs.declared.value.Value.TheVariants as value
use Rattle.flex_base.specs.Events.{ancestors}
use Rattle.flex_base.specs.Lists.{entry, changed_entry, one_later}
use Rattle.flex_base.specs.Value.{ref_of}
use Rattle.avm2_machine.specs.declared.catalog.NativeClass.{NativeClass}
use Rattle.avm2_machine.specs.declared.catalog.NativeClass.TheVariants as native
use Rattle.avm2_machine.specs.declared.stage.Class.{Class}
use Rattle.avm2_machine.specs.declared.stage.Class.TheVariants as class
use Rattle.avm2_machine.specs.declared.stage.PropertyType.{PropertyType}
use Rattle.avm2_machine.specs.declared.stage.PropertyType.TheVariants as type
use Rattle.avm2_machine.specs.declared.stage.Slot.{Slot}
use Rattle.avm2_machine.specs.declared.stage.Object.{Object}
use Rattle.avm2_machine.specs.declared.stage.Registration.{Registration}
use Rattle.avm2_machine.specs.declared.stage.Stage.{Stage}

-- a stage without objects
abbrev pub empty_stage : Stage
empty_stage = record { objects = []; cells = 0 }

abbrev pub same_native : NativeClass → NativeClass → Bool
same_native native.Application native.Application = true
same_native native.Label native.Label = true
same_native native.Button native.Button = true
same_native _ _ = false

abbrev pub same_class : Class → Class → Bool
same_class (class.File a) (class.File b) = a == b
same_class (class.Native a) (class.Native b) = same_native a b
same_class class.MouseEvent class.MouseEvent = true
same_class _ _ = false

-- what an object costs of whose class so many properties are declared
abbrev pub cost : ℕ → ℕ
cost declared = 16 + declared

-- whether the cells don't hold out for an object
abbrev pub too_many_cells : ℕ → Stage → Bool
too_many_cells declared s = nat_lt 1000000 (s.cells + cost declared)

-- the number of the next object
abbrev pub next_object : Stage → ObjId
next_object s = record { 0 = suc (length s.objects) }

-- with one object more
abbrev pub with_object : Class → List Slot → ℕ → Stage → Stage
with_object class slots declared s =
    record {
      objects = s.objects ++ record { class = class; slots = slots; children = []; parent = None; listeners = [] } ∷ [];
      cells = s.cells + cost declared;
    }

abbrev pub object_at : Stage → ObjId → Option Object
object_at s o = entry s.objects o.0

-- the place of the first property of a name
abbrev pub place_of : List ℕ → List Slot → Option ℕ
place_of name [] = None
place_of name (s ∷ slots) = if bytes_eq s.name name then Some 0 else one_later (place_of name slots)

-- the property of a name
abbrev pub slot_named : List ℕ → List Slot → Option Slot
slot_named name [] = None
slot_named name (s ∷ slots) = if bytes_eq s.name name then Some s else slot_named name slots

abbrev pub slot_of : List ℕ → Option Object → Option Slot
slot_of name None = None
slot_of name (Some object) = slot_named name object.slots

abbrev pub property : Stage → ObjId → List ℕ → Option Slot
property s o name = slot_of name (object_at s o)

-- what a property holds, if it is an object
abbrev pub held : Option Slot → Option ObjId
held None = None
held (Some slot) = ref_of slot.value

-- the object at the end of a path of names: each is of a property that holds an object
abbrev pub walked : Stage → Option ObjId → List (List ℕ) → Option ObjId
walked s o [] = o
walked s None (name ∷ names) = None
walked s (Some o) (name ∷ names) = walked s (held (property s o name)) names

-- the properties with a new value under a name
abbrev pub with_value : List ℕ → Value → List Slot → List Slot
with_value name v [] = []
with_value name v (s ∷ slots) = if bytes_eq s.name name then record s { value = v } ∷ slots else s ∷ with_value name v slots

abbrev pub with_property : ObjId → List ℕ → Value → Stage → Stage
with_property o name v s = record s { objects = changed_entry (λ object. record object { slots = with_value name v object.slots }) s.objects o.0 }

abbrev pub with_last : ObjId → ObjId → Stage → Stage
with_last container child s = record s { objects = changed_entry (λ object. record object { children = object.children ++ child ∷ [] }) s.objects container.0 }

abbrev pub with_parent : ObjId → ObjId → Stage → Stage
with_parent container child s = record s { objects = changed_entry (λ object. record object { parent = Some container }) s.objects child.0 }

-- with a child behind the others of a container, which is its parent now
abbrev pub with_child : ObjId → ObjId → Stage → Stage
with_child container child s = with_parent container child (with_last container child s)

-- with a listener behind those that an object has
abbrev pub with_listener : ObjId → Registration → Stage → Stage
with_listener o listener s = record s { objects = changed_entry (λ object. record object { listeners = object.listeners ++ listener ∷ [] }) s.objects o.0 }

-- whether a value is of a type, as far as the emitted code needs it
abbrev pub has_class : Class → Option Object → Bool
has_class c None = false
has_class c (Some object) = same_class object.class c

abbrev pub is_of : Stage → Value → PropertyType → Bool
is_of s (value.Text text) type.Text = true
is_of s (value.Ref o) (type.Instance c) = has_class c (object_at s o)
is_of s _ _ = false

-- a property that holds a text, which is empty at first
abbrev pub text_slot : List ℕ → Slot
text_slot name = record { name = name; kind = type.Text; value = value.Text [] }

-- the properties of a new object of a native class
abbrev pub native_slots : NativeClass → List Slot
native_slots native.Application = []
native_slots native.Label = text_slot (codes "text") ∷ []
native_slots native.Button = text_slot (codes "label") ∷ []

abbrev pub parent_of : Option Object → Option ObjId
parent_of None = None
parent_of (Some object) = object.parent

-- an object's parent
abbrev pub parent : Stage → ObjId → Option ObjId
parent s o = parent_of (object_at s o)

-- an object's parent, that one's parent, and so on
abbrev pub outer : Stage → ObjId → List ObjId
outer s o = ancestors (parent s) (length s.objects) o

abbrev pub listeners_of : Option Object → List Registration
listeners_of None = []
listeners_of (Some object) = object.listeners

-- the listeners that an object has, in order of registration
abbrev pub listeners : Stage → ObjId → List Registration
listeners s o = listeners_of (object_at s o)

abbrev pub children_of : Option Object → Option (List ObjId)
children_of None = None
children_of (Some object) = Some object.children

-- what the making of an object answers, and what it leaves
abbrev pub MakesObject : Stage → Class → List Slot → ℕ → Result ObjId RunRefusal → Stage → Type 0
MakesObject old c slots declared (Ok o) new = (too_many_cells declared old ≡ false) × (o ≡ next_object old) × (new ≡ with_object c slots declared old)
MakesObject old c slots declared (Err (refusal.Stop cause)) new = (too_many_cells declared old ≡ true) × (cause ≡ stop.Cells) × (new ≡ old)
MakesObject old c slots declared (Err refusal.NoMemory) new = Unit {0}

-- the place of the next child, if it has a number
abbrev pub next_place : Option (List ObjId) → Option ℕ
next_place None = None
next_place (Some children) = if nat_lt (length children) 4294967296 then Some (length children) else None

abbrev pub added : Option ℕ → ObjId → ObjId → Stage → Stage
added None container child s = s
added (Some place) container child s = with_child container child s

-- what the adding of a child answers, and what it leaves
abbrev pub Places : Stage → ObjId → ObjId → Result (Option ℕ) NoMemory → Stage → Type 0
Places old container child (Ok place) new =
    (place ≡ next_place (children_of (object_at old container))) × (new ≡ added place container child old)
Places old container child (Err e) new = Unit {0}
