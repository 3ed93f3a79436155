-- The ids among attributes.
use Rattle.std.proofs.Common.{◌≡◌, List, [], ◌∷◌, ◌++◌, refl, map, Bool, true, false, cond, ◌&&◌}
use Rattle.std.specs.Prelude.{if◌then◌else◌}
use Rattle.std.specs.List.{filter}
use Rattle.mxml_tree.specs.declared.tree.Attribute.{Attribute}
use Rattle.source_sites.specs.Members.{is_id, owned_id}
use Rattle.source_sites.specs.Types as types
use Rattle.as3_types.specs.Identifiers.{is_identifier}
use Rattle.class_table.specs.Ids.{id_named, ids_named}

module _ (type : types.ValueType) where
  first : (a : Attribute) (others : List Attribute) (b : Bool) → (if b then owned_id [] [] type a ∷ [] else []) ++ ids_named type others ≡ map (owned_id [] [] type) (cond b (a ∷ filter (λ (a : Attribute). is_id a && is_identifier a.value) others) (filter (λ (a : Attribute). is_id a && is_identifier a.value) others))
  first a others true = refl
  first a others false = refl

  pub next_id : (a : Attribute) (others : List Attribute) → id_named type a ++ ids_named type others ≡ ids_named type (a ∷ others)
  next_id a others = first a others (is_id a && is_identifier a.value)
