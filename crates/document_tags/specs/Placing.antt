-- What tags are, in the documents that the code judges.
use Rattle.std.specs.Prelude.{Bool, true, false, ◌&&◌, Option, bytes_eq}
use Rattle.flex_world.specs.declared.kind.Class.{Class}
use Rattle.mxml_tree.specs.declared.tree.Element.{Element}
use Rattle.source_sites.specs.Members.{Property}
use Rattle.source_sites.specs.Names.{Meaning}
use Rattle.source_sites.specs.Texts.{among}
use Rattle.source_sites.specs.Types.{ValueType}
use Rattle.document_sites.specs.Standing as sites
use Rattle.document_sites.specs.Standing.{Before, Holds, Placed, Property_tag, Role, Standing, holds_of, stands, state_property_names}
use Rattle.document_tags.specs.declared.document.DocumentClass.{DocumentClass}
use Rattle.document_tags.specs.Tags.{table_in}

-- a property tag, which may stand where it does
abbrev pub property_placed : Element → Bool → Property → Placed
property_placed tag filled p = stands tag (Property_tag p (holds_of p.type filled)) true

abbrev pub is_array : ValueType → Bool
is_array ValueType.Array = true
is_array _ = false

-- the name or the groups of a State in the State's namespace
abbrev pub is_own_state_property : Element → Element → Bool
is_own_state_property parent tag = bytes_eq parent.space tag.space && among tag.local state_property_names

module _ (d : DocumentClass) where
  abbrev pub instance_or_unknown : Role → Bool → Element → Meaning → Placed
  instance_or_unknown role right tag meaning = sites.instance_or_unknown (table_in d) d.class role right tag meaning

  abbrev pub stray_placed : Bool → Element → Placed
  stray_placed right tag = sites.stray_placed (table_in d) d.class right tag

  abbrev pub plain_placed : Role → Element → Placed
  plain_placed role tag = sites.plain_placed (table_in d) d.class role tag

  abbrev pub child_placed : Meaning → Element → Placed
  child_placed parent tag = sites.child_placed (table_in d) d.class parent tag

  -- a component that has its tag anywhere, in a container
  abbrev pub may_be_child : Meaning → Meaning → Bool
  may_be_child parent meaning =
      sites.may_be_instance (table_in d) d.class meaning && sites.is_component_class (table_in d) d.class meaning && sites.is_container_class (table_in d) d.class parent

  abbrev pub own_property : Element → Meaning → Element → Option Property
  own_property parent meaning tag = sites.own_property (table_in d) d.class parent meaning tag

  abbrev pub in_instance : Element → Meaning → Role → Element → Bool → Placed
  in_instance parent meaning role tag filled = sites.in_instance (table_in d) d.class parent meaning role tag filled

  abbrev pub literal_or_plain : Bool → Role → Element → Placed
  literal_or_plain needs_id role tag = sites.literal_or_plain (table_in d) d.class needs_id role tag

  abbrev pub value_placed : Class → Before → Element → Placed
  value_placed type before tag = sites.value_placed (table_in d) d.class type before tag

  abbrev pub goes_in : Class → Standing → Bool
  goes_in type standing = sites.goes_in (table_in d) d.class type standing

  abbrev pub in_states : Element → Placed
  in_states tag = sites.in_states (table_in d) d.class tag

  abbrev pub in_state : Element → Element → Placed
  in_state parent tag = sites.in_state (table_in d) d.class parent tag

  abbrev pub in_property : Holds → Before → Element → Placed
  in_property holds before tag = sites.in_property (table_in d) d.class holds before tag

  abbrev pub in_literal : ValueType → Element → Placed
  in_literal type tag = sites.in_literal (table_in d) d.class type tag

  abbrev pub placed_in : Placed → Before → Element → Bool → Placed
  placed_in parent before tag filled = sites.placed_in (table_in d) d.class parent before tag filled

  abbrev pub text_right : Standing → Before → Bool
  text_right standing before = sites.text_right (table_in d) d.class standing before

  abbrev pub root_placed : Element → Placed
  root_placed tag = sites.root_placed (table_in d) d.class tag

  abbrev pub text_in_property : Holds → Before → Bool
  text_in_property holds before = sites.text_in_property (table_in d) d.class holds before

  abbrev pub text_in_literal : ValueType → Before → Bool
  text_in_literal type before = sites.text_in_literal (table_in d) d.class type before
