-- The rules of the members of a class file in a source set.
use Rattle.std.specs.Prelude.{◌≡◌, ℕ, Option}
use Rattle.source_sites.specs.declared.names.NamedClass.{NamedClass}
use Rattle.source_sites.specs.declared.site.Site.{Site}
use Rattle.source_sites.specs.declared.source.ParsedClass.{ParsedClass}
use Rattle.source_sites.specs.Sites.{first_site}
use Rattle.source_sites.specs.Sources.{Content, Readers, SourceFiles}
use Rattle.source_sites.specs.Texts.{Text}
use Rattle.source_sites.specs.Trees.{class_file_of}
use Rattle.class_sites.specs.Phases.{phase_3_of_class}
use Rattle.as3_types.specs.declared.table.ClassTable.{ClassTable}
use Rattle.as3_types.specs.Identifiers.{is_identifier}
use Rattle.as3_types.specs.Tables.{table_of}

-- which texts are identifiers is what the code tells
abbrev pub KnowsIdentifiers : Readers → Type 0
KnowsIdentifiers readers = (text : Text) → readers.is_identifier text ≡ is_identifier text

-- the first broken rule of the members of a class file, in each source set whose readers know identifiers
abbrev pub IsMemberSite : ClassTable → ℕ → NamedClass → ParsedClass → Option Site → Type 0
IsMemberSite table file here parsed site =
    (s : SourceFiles) → KnowsIdentifiers s.readers → site ≡ first_site file (phase_3_of_class s (table_of table) file here (Content.Class_file (class_file_of parsed)))
