-- What the code of a class adds to the class table.
use Rattle.std.specs.Prelude.{◌≡◌, List, [], ◌∷◌, ◌++◌, map, Bool, false, Option, Some, None, option_map, if◌then◌else◌}
use Rattle.std.specs.List.{filter_map, find}
use Rattle.as3_parser.specs.declared.tree.Lexeme.{Lexeme}
use Rattle.as3_parser.specs.declared.tree.Member as m
use Rattle.as3_parser.specs.declared.tree.MetadataTag as t
use Rattle.as3_parser.specs.declared.tree.Modifier.{Modifier}
use Rattle.as3_parser.specs.declared.tree.Parameter as p
use Rattle.as3_parser.specs.declared.tree.ResultType as r
use Rattle.as3_parser.specs.declared.tree.Variable as v
use Rattle.source_sites.specs.declared.names.NamedClass.{NamedClass}
use Rattle.source_sites.specs.Functions.{constructor_in, functions_in, is_constructor}
use Rattle.source_sites.specs.Members as members
use Rattle.source_sites.specs.Members.{Event, Owned, declared_event, owned_members, signature_of, type_at}
use Rattle.source_sites.specs.Names.{path_names}
use Rattle.source_sites.specs.Syntax.{Declares, Function, TypedName}
use Rattle.source_sites.specs.Trees.{member_of, tag_of, variable_of}
use Rattle.source_sites.specs.Types as types
use Rattle.as3_types.specs.declared.table.ClassTable.{ClassTable}
use Rattle.as3_types.specs.declared.table.OwnMember.{OwnMember}
use Rattle.as3_types.specs.declared.types.Signature.{Signature}
use Rattle.as3_types.specs.Identifiers.{is_identifier}
use Rattle.as3_types.specs.Tables.{owned_of}
use Rattle.as3_types.specs.Types.{function_of, signature_as}
use Rattle.class_table.specs.declared.scope.ClassCode.{ClassCode}

module _ (classes : List NamedClass) (here : NamedClass) where
  -- what a function takes and gives, if it is a constructor
  abbrev pub taken_by : Function → Option types.Signature
  taken_by f = if is_constructor here f then Some (signature_of classes here f) else None

  abbrev pub constructor_declared : Declares → Option types.Signature
  constructor_declared d = option_map (signature_of classes here) (find (is_constructor here) (functions_in d))

  -- what the first constructor among members takes and gives
  abbrev pub constructor_written : List m.Member → Option types.Signature
  constructor_written ms = option_map (signature_of classes here) (constructor_in here (map member_of ms))

-- whatever the local variables of the function are
abbrev pub IsConstructor : List NamedClass → NamedClass → Lexeme → List p.Parameter → Option r.ResultType → Option Signature → Type 0
IsConstructor classes here name parameters given s =
    (locals : List TypedName) → option_map signature_as s ≡ taken_by classes here (function_of name parameters given locals)

module _ (code : ClassCode) where
  -- a variable with this access
  abbrev pub variable_owned : Modifier → Bool → TypedName → Owned
  variable_owned access bindable v =
      record {
        name = v.name.text;
        access = access;
        kind =
            members.A_property
            (record { name = v.name.text; type = type_at code.classes.now code.here.now (path_names v.type_name); read_only = false; bindable = bindable; native = false });
      }

  abbrev pub variables_owned : Modifier → Bool → List v.Variable → List Owned
  variables_owned access bindable vs = map (λ (v : v.Variable). variable_owned access bindable (variable_of v)) vs

  -- a function with this access, unless it is a constructor
  abbrev pub function_owned : Modifier → Function → List Owned
  function_owned access f =
      if is_constructor code.here.now f then []
      else record { name = f.name.text; access = access; kind = members.A_method (record { name = f.name.text; signature = signature_of code.classes.now code.here.now f; native = false }) } ∷ []

  abbrev pub member_owned : m.Member → List Owned
  member_owned member = members.owned_declared code.classes.now code.here.now code.bindable (member_of member) (member_of member).declares

  -- what the members add, in text order
  abbrev pub members_owned : List m.Member → List Owned
  members_owned ms = owned_members code.classes.now code.here.now code.bindable (map member_of ms)

-- these members stand behind those, in which a function with this access has been added, whatever its local variables are
abbrev pub AddsFunction : ClassCode → Modifier → Lexeme → List p.Parameter → Option r.ResultType → List OwnMember → List OwnMember → Type 0
AddsFunction code access name parameters given before behind =
    (locals : List TypedName) → map owned_of behind ≡ map owned_of before ++ function_owned code access (function_of name parameters given locals)

module _ (table : ClassTable) (here : NamedClass) where
  abbrev pub event_declared : t.MetadataTag → Option Event
  event_declared tag = declared_event table.classes table.bases is_identifier here (tag_of tag)

  -- the events that metadata declare, in text order
  abbrev pub events_declared : List t.MetadataTag → List Event
  events_declared tags = filter_map (declared_event table.classes table.bases is_identifier here) (map tag_of tags)
