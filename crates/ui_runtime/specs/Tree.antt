-- Components stand in containers.
use Rattle.std.specs.Prelude.{Err, List, None, Ok, Option, Result, Some, if◌then◌else◌, length, not, ℕ, ℤ}
use Rattle.flex_base.specs.declared.outcome.Stop.{Stop}
use Rattle.flex_base.specs.declared.outcome.Stop.TheVariants as stop
use Rattle.flex_base.specs.declared.value.ObjId.{ObjId}
use Rattle.flex_world.specs.Children.{child_at}
use Rattle.flex_world.specs.Objects.{Spot, is_object_among, parent_of}
use Rattle.stage_objects.specs.Tree.{joined_in, left_in, path_in, place_among, was_added}
use Rattle.ui_runtime.specs.Stage.{Stage, children_at, object_at}
use Rattle.ui_runtime.specs.declared.children.Placed.{Placed}

-- an object, its parent, that one's parent, and so on
abbrev pub path : ObjId → Stage → List ObjId
path o s = path_in o s.entities

-- the child at a place, if there is one
abbrev pub child : ObjId → ℤ → Stage → Option ObjId
child container place s = child_at (children_at container s) place

abbrev pub child_count : ObjId → Stage → ℕ
child_count container s = length (children_at container s)

abbrev pub left : ObjId → Option ObjId → Stage → Stage
left o parent s = record s { entities = left_in o parent s.entities }

-- a component is taken from its parent, if it has one
abbrev pub taken_out : ObjId → Stage → Stage
taken_out o s = left o (parent_of (object_at o s)) s

-- a component without a parent is put into a container, at a place
abbrev pub joined : ObjId → ObjId → Option Spot → ℕ → Stage → Stage
joined container o spot place s = record s { entities = joined_in container o spot place s.entities }

-- the place of a child among those that stand in the container
abbrev pub place_in : ObjId → Option Spot → Stage → ℕ
place_in container spot s = place_among container spot s.entities

abbrev pub placed_in : ObjId → ObjId → Option Spot → Stage → Stage → Placed × Stage
placed_in container o spot before s = (
  record { from = parent_of (object_at o before); place = place_in container spot s; first = not (was_added (object_at o s)) },
  joined container o spot (place_in container spot s) s,
)

-- a component is put into a container, as a declared child where it has a spot, after it has left its parent; it may not hold the container
abbrev pub places : ObjId → ObjId → Option Spot → Stage → Result (Placed × Stage) Stop
places container o spot s =
    if is_object_among o (path container s) then Err stop.Cycle
    else Ok (placed_in container o spot s (taken_out o s))

-- the spot of a declared child: the document that adds it, and the number of its declaration
abbrev pub spot_in : ObjId → Option (ObjId × ℕ) → Option Spot
spot_in container None = None
spot_in container (Some rank) = Some (record { container = container; document = rank.0; number = rank.1 })
