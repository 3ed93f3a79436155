-- The objects by their numbers.
use Rattle.std.proofs.Common.{◌≡◌, ℕ, zero, suc, List, map, refl, ap, sym, Option}
use Rattle.std.proofs.lemmas.Option.{slice_get-map}
use Rattle.std.specs.Prelude.{option_map}
use Rattle.flex_base.specs.Lists.{entry}
use Rattle.flex_base.specs.declared.value.ObjId.{ObjId}
use Rattle.flex_objects.specs.Entities.{Entity}
use Rattle.flex_world.specs.Objects.{object_at, parent_of}
use Rattle.stage_objects.specs.Entities.{object_in, object_of, objects_in}

pub entry_map : {A B : Type 0} (f : A → B) (items : List A) (n : ℕ) → entry (map f items) n ≡ option_map f (entry items n)
entry_map f items zero = refl
entry_map f items (suc n) = slice_get-map f items n

-- the parents, by which the ancestors of an object are found
abbrev pub parents : List Entity → ObjId → Option ObjId
parents entities o = parent_of (object_at (objects_in entities) o)

pub same_parent : (entities : List Entity) (o : ObjId) → parent_of (object_in o entities) ≡ parents entities o
same_parent entities o = ap parent_of (sym (entry_map object_of entities o.0))
