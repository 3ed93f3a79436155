-- The names and bases of the classes of read files.
use Rattle.std.specs.Prelude.{◌≡◌, List, [], ◌∷◌, map, Option}
use Rattle.std.specs.List.{flat_map}
use Rattle.flex_base.specs.Events.{path_text}
use Rattle.flex_world.specs.declared.kind.Class.{Class}
use Rattle.source_sites.specs.declared.names.Import.{Import}
use Rattle.source_sites.specs.declared.names.NamedClass.{NamedClass}
use Rattle.source_sites.specs.Bases.{base_meaning, base_meanings}
use Rattle.source_sites.specs.Names.{class_of, import_in, named_classes}
use Rattle.source_sites.specs.Sources.{SourceFiles}
use Rattle.source_sites.specs.Syntax.{Item}
use Rattle.source_sites.specs.Texts.{last_name, without_last}
use Rattle.source_sites.specs.Trees.{import_of, items_of}
use Rattle.read_sources.specs.declared.file.ReadDocument.{ReadDocument}
use Rattle.read_sources.specs.declared.file.ReadContent.{ReadContent}
use Rattle.read_sources.specs.declared.file.ReadContent.TheVariants as content
use Rattle.read_sources.specs.declared.file.ReadFile.{ReadFile}
use Rattle.read_sources.specs.Read.{AreRead, content_seen}

-- what stands in the scripts of a document, in document order
abbrev pub items_in : ReadDocument → List Item
items_in d = flat_map items_of d.scripts

abbrev pub imports_read : ReadContent → List Import
imports_read (content.Document d) = flat_map import_in (items_in d)
imports_read (content.ClassFile parsed) = map import_of parsed.file.imports.items

abbrev pub class_named : ReadFile → NamedClass
class_named f =
    record {
      folder = path_text (without_last f.path.names);
      name = last_name f.path.names;
      is_document = f.path.is_document;
      imports = imports_read f.content;
    }

-- the base of each class, among all classes
abbrev pub bases_read : List NamedClass → List NamedClass → List ReadFile → List (Option Class)
bases_read classes (here ∷ others) (f ∷ files) = class_of (base_meaning classes here (content_seen f.content)) ∷ bases_read classes others files
bases_read classes _ _ = []

-- the classes of each source set of these files
abbrev pub AreNamed : List ReadFile → List NamedClass → Type 0
AreNamed files classes = (s : SourceFiles) → AreRead s.readers files s.files → classes ≡ named_classes s

-- and their bases, among these classes
abbrev pub AreBases : List NamedClass → List ReadFile → List (Option Class) → Type 0
AreBases classes files bases = (s : SourceFiles) → AreRead s.readers files s.files → bases ≡ map class_of (base_meanings classes classes s.files)
