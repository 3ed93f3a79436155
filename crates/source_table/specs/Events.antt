-- The events that the classes of read files declare.
use Rattle.std.specs.Prelude.{◌≡◌, List, [], ◌∷◌, map, Option}
use Rattle.std.specs.List.{filter_map, flat_map}
use Rattle.source_sites.specs.declared.names.NamedClass.{NamedClass}
use Rattle.source_sites.specs.Members.{Event, declared_event, events_of_file, for_each}
use Rattle.source_sites.specs.Sources.{SourceFiles}
use Rattle.source_sites.specs.Syntax.{MetadataTag}
use Rattle.source_sites.specs.Trees.{tag_of, tags_of}
use Rattle.as3_types.specs.declared.table.ClassTable.{ClassTable}
use Rattle.as3_types.specs.declared.table.OwnEvent.{OwnEvent}
use Rattle.as3_types.specs.Identifiers.{is_identifier}
use Rattle.as3_types.specs.Tables.{event_of}
use Rattle.member_checks.specs.AllReaders.{KnowsIdentifiers}
use Rattle.read_sources.specs.declared.file.ReadContent.{ReadContent}
use Rattle.read_sources.specs.declared.file.ReadContent.TheVariants as content
use Rattle.read_sources.specs.declared.file.ReadFile.{ReadFile}
use Rattle.read_sources.specs.Read.{AreRead}

-- the metadata of the class of a file, in text order
abbrev pub tags_read : ReadContent → List MetadataTag
tags_read (content.Document d) = flat_map tags_of d.metadata
tags_read (content.ClassFile parsed) = map tag_of parsed.file.class.metadata.items

module _ (table : ClassTable) where
  -- the event that metadata declare, if they declare one
  abbrev pub declares : NamedClass → MetadataTag → Option Event
  declares here tag = declared_event table.classes table.bases is_identifier here tag

  abbrev pub events_seen : NamedClass → ReadContent → List Event
  events_seen here content = filter_map (declares here) (tags_read content)

  abbrev pub events_read : List NamedClass → List ReadFile → List (List Event)
  events_read (here ∷ others) (f ∷ files) = events_seen here f.content ∷ events_read others files
  events_read _ _ = []

-- the events of the classes of a table in each source set of these files whose readers know identifiers
abbrev pub AreEvents : ClassTable → List ReadFile → List (List OwnEvent) → Type 0
AreEvents table files events =
    (s : SourceFiles) → KnowsIdentifiers s.readers → AreRead s.readers files s.files
    → map (map event_of) events ≡ for_each (events_of_file s table.classes table.bases) table.classes s.files
