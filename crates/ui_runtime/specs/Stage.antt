-- The stage: the objects of a play, and what is looked up and changed in them.
use Rattle.std.specs.Prelude.{List, Option, [], length, suc, ℕ}
use Rattle.flex_base.specs.Lists.{changed_entry}
use Rattle.flex_base.specs.declared.value.ObjId.{ObjId}
use Rattle.flex_base.specs.declared.value.Value.{Value}
use Rattle.flex_world.specs.Objects.{Object, Registration}
use Rattle.flex_objects.specs.Entities.{Entity, Inside}
use Rattle.stage_objects.specs.Entities.{children_in, elements_of, entity_in, held_in, inside_in, listeners_of, object_in, objects_in, with_inside, with_object}
use Rattle.watch_table.specs.declared.watch.Watched.{Watched}

pub record Stage : Type 0 where
  -- what is kept for objects, events and arrays, in the order in which they were made: the first has the number 1
  pub entities : List Entity
  -- the watched chains of the bindings that are enabled, in the order in which they were
  pub watched : List Watched
  -- the cells that were made
  pub cells : ℕ

abbrev pub empty_stage : Stage
empty_stage = record { entities = []; watched = []; cells = 0 }

-- the objects, as the source knows them
abbrev pub objects : Stage → List Object
objects s = objects_in s.entities

-- what is kept for the object of a number
abbrev pub entity_at : ObjId → Stage → Option Entity
entity_at o s = entity_in o s.entities

abbrev pub object_at : ObjId → Stage → Option Object
object_at o s = object_in o s.entities

abbrev pub inside_at : ObjId → Stage → Option Inside
inside_at o s = inside_in o s.entities

abbrev pub change_entity : ObjId → (Entity → Entity) → Stage → Stage
change_entity o f s = record s { entities = changed_entry f s.entities o.0 }

-- the stage with one of its objects changed
abbrev pub change : ObjId → (Object → Object) → Stage → Stage
change o f s = change_entity o (with_object f) s

abbrev pub change_inside : ObjId → (Inside → Inside) → Stage → Stage
change_inside o f s = change_entity o (with_inside f) s

-- the number of the object that is made next
abbrev pub next_number : Stage → ObjId
next_number s = record { 0 = suc (length s.entities) }

-- the object in the slot of a key, hidden or not
abbrev pub held : Stage → ObjId → List ℕ → Option ObjId
held s o key = held_in s.entities o key

abbrev pub elements_at : ObjId → Stage → List Value
elements_at o s = elements_of (entity_at o s)

-- the listeners of a node, in order of registration
abbrev pub listeners_at : ObjId → Stage → List Registration
listeners_at node s = listeners_of (entity_at node s)

abbrev pub children_at : ObjId → Stage → List ObjId
children_at o s = children_in o s.entities
