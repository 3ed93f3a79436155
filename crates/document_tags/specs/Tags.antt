-- The tags that the code places.
use Rattle.std.specs.Prelude.{Bool, true, ◌||◌}
use Rattle.source_sites.specs.Members.{Table}
use Rattle.as3_types.specs.Meanings.{meaning_of}
use Rattle.as3_types.specs.Tables.{table_of}
use Rattle.as3_types.specs.Types.{type_of}
use Rattle.class_table.specs.Seen.{property_as}
use Rattle.document_sites.specs.Standing as sites
use Rattle.document_tags.specs.declared.document.DocumentClass.{DocumentClass}
use Rattle.document_tags.specs.declared.standing.Before.{Before}
use Rattle.document_tags.specs.declared.standing.Holds.{Holds}
use Rattle.document_tags.specs.declared.standing.Holds.TheVariants as holds
use Rattle.document_tags.specs.declared.standing.Placed.{Placed}
use Rattle.document_tags.specs.declared.standing.Role.{Role}
use Rattle.document_tags.specs.declared.standing.Role.TheVariants as role
use Rattle.document_tags.specs.declared.standing.Standing.{Standing}
use Rattle.document_tags.specs.declared.standing.Standing.TheVariants as standing

abbrev pub role_as : Role → sites.Role
role_as role.Root = sites.Role.Root
role_as role.Child = sites.Role.Child
role_as role.Declared = sites.Role.Declared
role_as role.Item = sites.Role.Item
role_as role.Value = sites.Role.Value
role_as role.Astray = sites.Role.Astray

abbrev pub holds_as : Holds → sites.Holds
holds_as holds.Words = sites.Holds.Words
holds_as (holds.OneInstance class) = sites.Holds.One_instance class
holds_as holds.ArrayItems = sites.Holds.Array_items

abbrev pub standing_as : Standing → sites.Standing
standing_as (standing.Instance meaning role) = sites.Standing.An_instance (meaning_of meaning) (role_as role)
standing_as (standing.PropertyTag property holds) = sites.Standing.Property_tag (property_as property) (holds_as holds)
standing_as standing.Script = sites.Standing.Script
standing_as standing.Metadata = sites.Standing.Metadata
standing_as standing.Declarations = sites.Standing.Declarations
standing_as standing.Binding = sites.Standing.Binding
standing_as standing.States = sites.Standing.States_tag
standing_as standing.State = sites.Standing.A_state
standing_as standing.StateProperty = sites.Standing.State_property
standing_as (standing.Literal type needs_id) = sites.Standing.Literal_tag (type_of type) needs_id
standing_as standing.Unknown = sites.Standing.Unknown_tag

abbrev pub placed_as : Placed → sites.Placed
placed_as p = record { tag = p.tag.now; standing = standing_as p.standing; right = p.right }

abbrev pub before_as : Before → sites.Before
before_as b = record { any = b.any; text = b.text }

-- what stands before the node behind a text, or behind an element
abbrev pub behind_a : Bool → sites.Before → sites.Before
behind_a is_text b = record { any = true; text = b.text || is_text }

abbrev pub table_in : DocumentClass → Table
table_in d = table_of d.table.now
