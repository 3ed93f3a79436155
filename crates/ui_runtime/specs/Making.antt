-- Objects and arrays take cells and numbers.
use Rattle.std.specs.Prelude.{Err, Ok, Result, [], if◌then◌else◌, nat_lt, ℕ, ◌+◌, ◌++◌, ◌∷◌}
use Rattle.flex_base.specs.Value.{and_then}
use Rattle.flex_base.specs.declared.outcome.Stop.{Stop}
use Rattle.flex_base.specs.declared.outcome.Stop.TheVariants as stop
use Rattle.flex_base.specs.declared.value.ObjId.{ObjId}
use Rattle.flex_world.specs.Making.{object_cost}
use Rattle.flex_objects.specs.Entities.{Entity, Shape, new_array, new_instance}
use Rattle.ui_runtime.specs.Stage.{Stage, next_number}

-- there are so many cells
abbrev pub most_cells : ℕ
most_cells = 1000000

-- cells are taken, and never given back
abbrev pub pays : ℕ → Stage → Result Stage Stop
pays cost s = if nat_lt most_cells (s.cells + cost) then Err stop.Cells else Ok (record s { cells = s.cells + cost })

abbrev pub with_entity : Entity → Stage → Stage
with_entity e s = record s { entities = s.entities ++ e ∷ [] }

-- an object takes the next number
abbrev pub takes_number : Entity → Stage → Result (ObjId × Stage) Stop
takes_number e s = Ok (next_number s, with_entity e s)

-- an object costs 16 cells, and one for each slot that isn't hidden
abbrev pub makes : Shape → Stage → Result (ObjId × Stage) Stop
makes shape s = and_then (pays (object_cost shape.fields) s) (takes_number (new_instance shape))

-- an array costs a cell
abbrev pub makes_array : Stage → Result (ObjId × Stage) Stop
makes_array s = and_then (pays 1 s) (takes_number new_array)
