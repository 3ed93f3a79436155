-- The class table of read files.
use Rattle.std.specs.Prelude.{◌≡◌, List}
use Rattle.source_sites.specs.Members.{table}
use Rattle.source_sites.specs.Sources.{SourceFiles}
use Rattle.as3_types.specs.declared.table.ClassTable.{ClassTable}
use Rattle.as3_types.specs.Tables.{table_of}
use Rattle.member_checks.specs.AllReaders.{KnowsIdentifiers}
use Rattle.read_sources.specs.declared.file.ReadFile.{ReadFile}
use Rattle.read_sources.specs.Read.{AreRead}

-- that of each source set of these files whose readers know identifiers
abbrev pub IsTableOf : List ReadFile → ClassTable → Type 0
IsTableOf files t = (s : SourceFiles) → KnowsIdentifiers s.readers → AreRead s.readers files s.files → table_of t ≡ table s
