-- Components stand in containers.
use Rattle.std.specs.List.{insert}
use Rattle.std.specs.Prelude.{Bool, List, None, Option, Some, false, ℕ, ◌∷◌}
use Rattle.flex_base.specs.declared.value.ObjId.{ObjId}
use Rattle.flex_world.specs.Children.{joined_to, place_for, without_child}
use Rattle.flex_world.specs.Objects.{Object, Spot, ancestors_of, parent_of}
use Rattle.flex_objects.specs.Entities.{Entity}
use Rattle.stage_objects.specs.Entities.{change_in, children_in, object_in, objects_in}

-- an object, its parent, that one's parent, and so on
abbrev pub path_in : ObjId → List Entity → List ObjId
path_in o entities = o ∷ ancestors_of (objects_in entities) o

abbrev pub without_parent : Object → Object
without_parent c = record c { parent = None }

abbrev pub lacking : ObjId → Object → Object
lacking o c = record c { children = without_child o c.children }

abbrev pub left_in : ObjId → Option ObjId → List Entity → List Entity
left_in o None entities = entities
left_in o (Some parent) entities = change_in o without_parent (change_in parent (lacking o) entities)

-- a component is taken from its parent, if it has one
abbrev pub taken_out_in : ObjId → List Entity → List Entity
taken_out_in o entities = left_in o (parent_of (object_in o entities)) entities

abbrev pub holding_at : ℕ → ObjId → Object → Object
holding_at place o c = record c { children = insert c.children place o }

-- a component without a parent is put into a container, at a place
abbrev pub joined_in : ObjId → ObjId → Option Spot → ℕ → List Entity → List Entity
joined_in container o spot place entities =
    change_in o (joined_to container spot) (change_in container (holding_at place o) entities)

-- the place of a child among those that stand in the container
abbrev pub place_among : ObjId → Option Spot → List Entity → ℕ
place_among container spot entities = place_for (objects_in entities) spot (children_in container entities)

abbrev pub was_added : Option Object → Bool
was_added None = false
was_added (Some c) = c.was_added
