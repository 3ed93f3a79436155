-- The walk along a watched chain.
use Rattle.std.specs.Prelude.{Bool, List, None, Option, Some, [], false, ℕ, ◌&&◌, ◌||◌, ◌∷◌}
use Rattle.std.specs.Str.{bytes_eq}
use Rattle.flex_base.specs.Value.{is_object}
use Rattle.flex_base.specs.declared.value.ObjId.{ObjId}

-- by which object a property of an object holds, if any: the walk along the names reaches this object where this property is the next name
abbrev pub reaches : (ObjId → List ℕ → Option ObjId) → ObjId → List ℕ → List (List ℕ) → Option ObjId → Bool
reaches held o name [] from = false
reaches held o name (next ∷ names) None = false
reaches held o name (next ∷ names) (Some at) = (is_object at o && bytes_eq next name) || reaches held o name names (held at next)
