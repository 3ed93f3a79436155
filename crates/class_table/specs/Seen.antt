-- What the code of a class sees of the members of others, by the table that the code keeps.
use Rattle.std.specs.Prelude.{Option, true}
use Rattle.as3_parser.specs.declared.tree.Modifier.{Modifier}
use Rattle.component_catalog.specs.declared.property.PropertyRow.{PropertyRow}
use Rattle.flex_world.specs.declared.kind.Class.{Class}
use Rattle.source_sites.specs.LookUps as look_ups
use Rattle.source_sites.specs.Members as members
use Rattle.source_sites.specs.Texts.{Text}
use Rattle.source_sites.specs.Types.{native_type}
use Rattle.as3_types.specs.declared.look_ups.Found.{Found}
use Rattle.as3_types.specs.declared.table.ClassTable.{ClassTable}
use Rattle.as3_types.specs.declared.table.OwnMember.{OwnMember}
use Rattle.as3_types.specs.Tables.{kind_of, member_as, table_of}
use Rattle.as3_types.specs.Types.{type_of}
use Rattle.class_table.specs.declared.look_ups.Property.{Property}

abbrev pub property_as : Property → members.Property
property_as p = record { name = p.name.now; type = type_of p.kind; read_only = p.read_only; bindable = p.bindable; native = p.native }

abbrev pub access_in : Text → Found → Modifier
access_in name f = (member_as name f).access

-- the property that a member is, if it is one
abbrev pub property_in_member : Text → Found → Option members.Property
property_in_member name f = look_ups.property_in (member_as name f).kind

abbrev pub property_of_own : OwnMember → Option members.Property
property_of_own m = look_ups.property_in (kind_of m.name m.kind)

abbrev pub property_of_row : Text → PropertyRow → members.Property
property_of_row name row = record { name = name; type = native_type row.kind; read_only = row.read_only; bindable = row.bindable; native = true }

-- the member and the property that a name stands for on objects of a class, where the code of the first class may see it
module _ (table : ClassTable) (from class : Class) (name : Text) where
  abbrev pub member_seen : Option members.Found
  member_seen = look_ups.if_seen (table_of table) from (look_ups.member_of (table_of table) class name)

  abbrev pub property_found : Option members.Property
  property_found = look_ups.property_seen (table_of table) from class name
