-- What the meaning of a source changes, and the operations on it.
use Rattle.std.specs.Prelude.{ℕ, zero, suc, ◌+◌, ◌-◌, List, [], ◌∷◌, ◌++◌, length, if◌then◌else◌, nat_lt, Option, Some, None}
use Rattle.std.specs.Str.{bytes_eq}
use Rattle.flex_base.specs.Lists.{entry, changed_entry}
use Rattle.flex_base.specs.Value.{same}
use Rattle.flex_base.specs.declared.outcome.Outcome.{Outcome}
use Rattle.flex_base.specs.declared.outcome.Outcome.TheVariants.{Stopped, TurnsSpent}
use Rattle.flex_base.specs.declared.outcome.Stop.TheVariants.{Depth, Cells}
use Rattle.flex_base.specs.declared.record.TraceItem.{TraceItem}
use Rattle.flex_base.specs.declared.record.TraceItem.TheVariants.{Made, Written, Added}
use Rattle.flex_base.specs.declared.value.ObjId.{ObjId}
use Rattle.flex_base.specs.declared.value.Value.{Value}
use Rattle.avm2_machine.specs.declared.catalog.NativeClass.{NativeClass}
use Rattle.flex_base.specs.Events.{ancestors}

-- what an object is: one of the main source, a component of a native class, or the event of a click
pub data Kind : Type 0 where
  Main : Kind
  Native : (class : NativeClass) → Kind
  MouseEvent : Kind

-- what a property holds: a text, or an object of a native class
pub data Content : Type 0 where
  A_text : Content
  An_object : (class : NativeClass) → Content

pub record Property : Type 0 where
  pub name : List ℕ
  pub content : Content
  pub value : Value

-- a handler of a document, which is registered for the events of a type: its number among the document's handlers, and what it traces
pub record Listener : Type 0 where
  pub event : List ℕ
  pub document : ObjId
  pub number : ℕ
  pub traces : List ℕ

pub record Component : Type 0 where
  pub kind : Kind
  pub properties : List Property
  pub children : List ObjId
  pub parent : Option ObjId
  -- in order of registration
  pub listeners : List Listener

pub record World : Type 0 where
  -- the objects in the order in which they were made: the first has the number 1
  pub objects : List Component
  -- the cells that were taken
  pub cells : ℕ
  -- how many activities are open
  pub level : ℕ
  -- how many turns are left
  pub turns : ℕ
  pub records : List TraceItem

-- goes on with a value, or the play is over
pub data Result (A : Type 0) : Type 0 where
  Goes : (v : A) (w : World) → Result A
  Halts : (o : Outcome) (w : World) → Result A

abbrev pub bind : {A B : Type 0} → Result A → (A → World → Result B) → Result B
bind (Goes v w) f = f v w
bind (Halts o w) f = Halts o w

-- the world before a play of so many turns
abbrev pub empty_world : ℕ → World
empty_world turns = record { objects = []; cells = 0; level = 0; turns = turns; records = [] }

abbrev pub note : TraceItem → World → World
note item w = record w { records = w.records ++ item ∷ [] }

abbrev pub spend : ℕ → World → Result (Unit {0})
spend zero w = Halts TurnsSpent w
spend (suc turns) w = Goes tt (record w { level = w.level + 1; turns = turns })

-- an activity begins: it takes a level, of which there are 256, and a turn
abbrev pub enter : World → Result (Unit {0})
enter w = if nat_lt w.level 256 then spend w.turns w else Halts (Stopped Depth) w

-- an activity is over, and gives its level back
abbrev pub leave : World → World
leave w = record w { level = w.level - 1 }

abbrev pub activity : (World → Result (Unit {0})) → World → Result (Unit {0})
activity body w = bind (enter w) (λ _ w1. bind (body w1) (λ _ w2. Goes tt (leave w2)))

abbrev pub next_number : World → ObjId
next_number w = record { 0 = suc (length w.objects) }

abbrev pub with_component : Component → ℕ → World → World
with_component c cost w = record w { objects = w.objects ++ c ∷ []; cells = w.cells + cost }

abbrev pub new_component : Kind → List Property → Component
new_component kind properties = record { kind = kind; properties = properties; children = []; parent = None; listeners = [] }

-- an object takes the next number, 16 cells and one for each property that its source declares, of 1,000,000
abbrev pub take : Kind → List Property → ℕ → World → Result ObjId
take kind properties declared w =
    if nat_lt 1000000 (w.cells + (16 + declared)) then Halts (Stopped Cells) w
    else Goes (next_number w) (with_component (new_component kind properties) (16 + declared) w)

-- makes an object of a class with this name
abbrev pub make : Kind → List ℕ → List Property → ℕ → World → Result ObjId
make kind class properties declared w = bind (take kind properties declared w) (λ o w1. Goes o (note (Made o class) w1))

abbrev pub component : World → ObjId → Option Component
component w o = entry w.objects o.0

-- the first property of a name
abbrev pub property_named : List ℕ → List Property → Option Property
property_named name [] = None
property_named name (p ∷ properties) = if bytes_eq p.name name then Some p else property_named name properties

abbrev pub property_in : List ℕ → Option Component → Option Property
property_in name None = None
property_in name (Some c) = property_named name c.properties

-- the properties with a new value under a name
abbrev pub with_value : List ℕ → Value → List Property → List Property
with_value name v [] = []
with_value name v (p ∷ properties) = if bytes_eq p.name name then record p { value = v } ∷ properties else p ∷ with_value name v properties

abbrev pub stored : ObjId → List ℕ → Value → World → World
stored o name v w = record w { objects = changed_entry (λ c. record c { properties = with_value name v c.properties }) w.objects o.0 }

abbrev pub write_over : ObjId → List ℕ → Option Property → Value → World → World
write_over o name None v w = w
write_over o name (Some p) v w = if same p.value v then w else note (Written o name v) (stored o name v w)

-- writes a public property: a value that equals the old one by `===` changes nothing
abbrev pub write : ObjId → List ℕ → Value → World → Result (Unit {0})
write o name v w = Goes tt (write_over o name (property_in name (component w o)) v w)

abbrev pub child_count : Option Component → ℕ
child_count None = 0
child_count (Some c) = length c.children

abbrev pub with_last : ObjId → ObjId → World → World
with_last parent child w = record w { objects = changed_entry (λ c. record c { children = c.children ++ child ∷ [] }) w.objects parent.0 }

abbrev pub with_parent : ObjId → ObjId → World → World
with_parent parent child w = record w { objects = changed_entry (λ c. record c { parent = Some parent }) w.objects child.0 }

abbrev pub with_child : ObjId → ObjId → World → World
with_child parent child w = with_parent parent child (with_last parent child w)

-- adds a declared child behind those that were declared and added before it
abbrev pub add : ObjId → ObjId → World → Result (Unit {0})
add parent child w = Goes tt (note (Added parent child (child_count (component w parent))) (with_child parent child w))

-- registers a listener behind those that an object has
abbrev pub with_listener : ObjId → Listener → World → World
with_listener o listener w = record w { objects = changed_entry (λ c. record c { listeners = c.listeners ++ listener ∷ [] }) w.objects o.0 }

abbrev pub listen : ObjId → Listener → World → Result (Unit {0})
listen o listener w = Goes tt (with_listener o listener w)

abbrev pub parent_of : Option Component → Option ObjId
parent_of None = None
parent_of (Some c) = c.parent

abbrev pub parent : World → ObjId → Option ObjId
parent w o = parent_of (component w o)

-- an object's parent, that one's parent, and so on
abbrev pub outer : World → ObjId → List ObjId
outer w o = ancestors (parent w) (length w.objects) o

abbrev pub listeners_of : Option Component → List Listener
listeners_of None = []
listeners_of (Some c) = c.listeners

abbrev pub listeners : World → ObjId → List Listener
listeners w o = listeners_of (component w o)
