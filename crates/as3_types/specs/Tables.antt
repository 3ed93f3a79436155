-- The class table that the code keeps, and what its look-ups find.
use Rattle.std.specs.Prelude.{map, length, option_map, false, true}
use Rattle.std.specs.List.{filter}
use Rattle.component_catalog.specs.declared.method.MethodRow.{MethodRow}
use Rattle.as3_parser.specs.declared.tree.Modifier.TheVariants as modifier
use Rattle.source_sites.specs.Texts.{Text}
use Rattle.source_sites.specs.Types as sites
use Rattle.source_sites.specs.Types.{parameter_type, may_be_left_out, result_type_of}
use Rattle.source_sites.specs.Members as members
use Rattle.source_sites.specs.LookUps.{native_member}
use Rattle.as3_types.specs.declared.table.OwnMember.{OwnMember}
use Rattle.as3_types.specs.declared.table.OwnKind.{OwnKind}
use Rattle.as3_types.specs.declared.table.OwnKind.TheVariants as own
use Rattle.as3_types.specs.declared.table.OwnEvent.{OwnEvent}
use Rattle.as3_types.specs.declared.table.ClassTable.{ClassTable}
use Rattle.as3_types.specs.declared.look_ups.Found.{Found}
use Rattle.as3_types.specs.declared.look_ups.Found.TheVariants as found
use Rattle.as3_types.specs.declared.look_ups.FoundMember.{FoundMember}
use Rattle.as3_types.specs.Types.{type_of, signature_as}

abbrev pub kind_of : Text → OwnKind → members.Kind
kind_of name (own.Property type bindable) = members.A_property (record { name = name; type = type_of type; read_only = false; bindable = bindable; native = false })
kind_of name (own.Method s) = members.A_method (record { name = name; signature = signature_as s; native = false })

abbrev pub owned_of : OwnMember → members.Owned
owned_of m = record { name = m.name; access = m.access; kind = kind_of m.name m.kind }

abbrev pub event_of : OwnEvent → members.Event
event_of e = record { name = e.name; class = e.«class» }

abbrev pub table_of : ClassTable → members.Table
table_of t =
    record {
      names = t.classes;
      bases = t.bases;
      constructors = map (option_map signature_as) t.constructors;
      members = map (map owned_of) t.members;
      events = map (map event_of) t.events;
    }

-- what a method of the catalog takes and gives, by its row
abbrev pub signature_of_row : MethodRow → sites.Signature
signature_of_row m =
    record {
      parameters = map parameter_type m.parameters.now;
      optional = length (filter may_be_left_out m.parameters.now);
      result = result_type_of m.result;
    }

-- a member that was found by this name
abbrev pub member_as : Text → Found → members.Owned
member_as name (found.Source m) = owned_of m.now
member_as name (found.Property row) = native_member (record { name = name; row = row })
member_as name (found.Method m) =
    record { name = name; access = modifier.Public; kind = members.A_method (record { name = name; signature = signature_of_row m; native = true }) }

abbrev pub found_as : Text → FoundMember → members.Found
found_as name f = record { owner = f.owner; member = member_as name f.member }
