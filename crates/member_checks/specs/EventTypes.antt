-- The types of the events that metadata declare, by the table that the code keeps.
use Rattle.std.specs.Prelude.{List, Option, Some, None, option_map, option_and_then, if◌then◌else◌}
use Rattle.std.specs.List.{list_all}
use Rattle.flex_world.specs.Classes.{is_event}
use Rattle.flex_world.specs.declared.kind.Class.{Class}
use Rattle.source_sites.specs.Texts.{Text, split}
use Rattle.source_sites.specs.Members.{Event, declared_event}
use Rattle.source_sites.specs.Names as names
use Rattle.source_sites.specs.Names.{class_at}
use Rattle.source_sites.specs.Syntax.{MetadataTag}
use Rattle.source_sites.specs.declared.names.NamedClass.{NamedClass}
use Rattle.as3_types.specs.declared.meaning.Meaning.{Meaning}
use Rattle.as3_types.specs.declared.table.ClassTable.{ClassTable}
use Rattle.as3_types.specs.Identifiers.{is_identifier}
use Rattle.as3_types.specs.Meanings.{meaning_of}

abbrev pub identifier_in : Text → Option Text
identifier_in name = if is_identifier name then Some name else None

abbrev pub identifiers_in : List Text → Option (List Text)
identifiers_in names = if list_all is_identifier names then Some names else None

module _ (table : ClassTable) where
  abbrev pub if_event : Class → Option Class
  if_event class = if is_event table.bases class then Some class else None

  abbrev pub event_class : Meaning → Option Class
  event_class meaning = option_and_then if_event (names.class_of (meaning_of meaning))

  -- the class of events that a text names in the code of a class
  abbrev pub class_of_type : NamedClass → Text → Option Class
  class_of_type here written = option_and_then (λ path. option_and_then if_event (names.class_of (class_at table.classes here path))) (identifiers_in (split 46 written))

  -- the class of the events that metadata declare
  abbrev pub event_declared : NamedClass → MetadataTag → Option Class
  event_declared here m = option_map (λ (e : Event). e.«class») (declared_event table.classes table.bases is_identifier here m)
