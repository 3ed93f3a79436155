-- What the ids of a document add to the class table.
use Rattle.std.specs.Prelude.{◌≡◌, ℕ, List, [], ◌∷◌, map, Option, option_map, ◌&&◌, if◌then◌else◌}
use Rattle.std.specs.List.{filter}
use Rattle.mxml_tree.specs.Tree.{Nodes}
use Rattle.mxml_tree.specs.declared.tree.Attribute.{Attribute}
use Rattle.mxml_tree.specs.declared.tree.Element.{Element}
use Rattle.source_sites.specs.declared.names.NamedClass.{NamedClass}
use Rattle.source_sites.specs.Members.{Owned, ids_on, is_id, owned_id}
use Rattle.source_sites.specs.Scripts.{holder}
use Rattle.source_sites.specs.Types as types
use Rattle.as3_types.specs.declared.table.OwnMember.{OwnMember}
use Rattle.as3_types.specs.declared.types.Signature.{Signature}
use Rattle.as3_types.specs.Identifiers.{is_identifier}
use Rattle.as3_types.specs.Tables.{owned_of}
use Rattle.as3_types.specs.Types.{signature_as}

abbrev pub taken_by_each : List (Option Signature) → List (Option types.Signature)
taken_by_each constructors = map (option_map signature_as) constructors

-- what an attribute adds, of this type
abbrev pub id_named : types.ValueType → Attribute → List Owned
id_named type a = if is_id a && is_identifier a.value then owned_id [] [] type a ∷ [] else []

abbrev pub ids_named : types.ValueType → List Attribute → List Owned
ids_named type attributes = map (owned_id [] [] type) (filter (λ (a : Attribute). is_id a && is_identifier a.value) attributes)

-- wherever the element stands, and whatever stands in it
abbrev pub AreIdsOn : List NamedClass → List (Option Signature) → Element → List OwnMember → Type 0
AreIdsOn classes constructors tag owned =
    (at : ℕ) (nodes : Nodes) → map owned_of owned ≡ ids_on classes (taken_by_each constructors) is_identifier (holder at tag nodes)
