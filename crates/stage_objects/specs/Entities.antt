-- The objects, arrays and events of a play: what is kept for each, in the order in which they were made. The first has the number 1.
use Rattle.std.specs.Prelude.{List, None, Option, Some, [], map, option_and_then, option_map, ℕ}
use Rattle.flex_base.specs.Lists.{changed_entry, entry}
use Rattle.flex_base.specs.declared.value.ObjId.{ObjId}
use Rattle.flex_base.specs.declared.value.Value.{Value}
use Rattle.flex_world.specs.Objects.{Object, Registration, object_in_slot}
use Rattle.flex_objects.specs.Entities.{Entity, Inside, kept}

abbrev pub object_of : Entity → Object
object_of e = e.object

abbrev pub inside_of : Entity → Inside
inside_of e = e.inside

-- the objects, as the source knows them
abbrev pub objects_in : List Entity → List Object
objects_in entities = map object_of entities

-- what is kept for the object of a number
abbrev pub entity_in : ObjId → List Entity → Option Entity
entity_in o entities = entry entities o.0

abbrev pub object_in : ObjId → List Entity → Option Object
object_in o entities = option_map object_of (entity_in o entities)

abbrev pub inside_in : ObjId → List Entity → Option Inside
inside_in o entities = option_map inside_of (entity_in o entities)

abbrev pub with_object : (Object → Object) → Entity → Entity
with_object f e = record e { object = f e.object }

abbrev pub with_inside : (Inside → Inside) → Entity → Entity
with_inside f e = record e { inside = f e.inside }

-- the entities, with one of the objects changed
abbrev pub change_in : ObjId → (Object → Object) → List Entity → List Entity
change_in o f entities = changed_entry (with_object f) entities o.0

-- the object in the slot of a key, hidden or not
abbrev pub held_in : List Entity → ObjId → List ℕ → Option ObjId
held_in entities o key = option_and_then (λ e. option_and_then object_in_slot (kept key e)) (entity_in o entities)

abbrev pub elements_of : Option Entity → List Value
elements_of None = []
elements_of (Some e) = e.object.elements

-- the listeners of a node, in order of registration
abbrev pub listeners_of : Option Entity → List Registration
listeners_of None = []
listeners_of (Some e) = e.object.listeners

abbrev pub children_of : Option Entity → List ObjId
children_of None = []
children_of (Some e) = e.object.children

abbrev pub children_in : ObjId → List Entity → List ObjId
children_in o entities = children_of (entity_in o entities)
