-- The objects by their numbers.
use Rattle.std.proofs.Common.{◌≡◌, refl, suc, zero, ℕ}
use Rattle.std.proofs.lemmas.Option.{slice_get-map}
use Rattle.std.specs.Prelude.{option_map}
use Rattle.flex_base.specs.Lists.{entry}
use Rattle.flex_base.specs.declared.value.ObjId.{ObjId}
use Rattle.flex_world.specs.Objects.{object_at}
use Rattle.stage_objects.specs.Entities.{object_of}
use Rattle.ui_runtime.specs.Stage.{Stage, entity_at, objects}

by_number : (s : Stage) (n : ℕ) → entry (objects s) n ≡ option_map object_of (entry s.entities n)
by_number s zero = refl
by_number s (suc n) = slice_get-map object_of s.entities n

-- an object among the objects is the object of its entity
pub object_entry : (s : Stage) (o : ObjId) → object_at (objects s) o ≡ option_map object_of (entity_at o s)
object_entry s o = by_number s o.0
