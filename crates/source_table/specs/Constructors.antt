-- What the constructors of the classes of read files take.
use Rattle.std.specs.Prelude.{◌≡◌, List, [], ◌∷◌, map, Option, option_map}
use Rattle.std.specs.List.{flat_map}
use Rattle.source_sites.specs.declared.names.NamedClass.{NamedClass}
use Rattle.source_sites.specs.Functions.{constructor_in, member_in}
use Rattle.source_sites.specs.Members.{constructor_list, signature_of}
use Rattle.source_sites.specs.Sources.{SourceFiles}
use Rattle.source_sites.specs.Syntax.{Member}
use Rattle.source_sites.specs.Trees.{member_of}
use Rattle.source_sites.specs.Types as types
use Rattle.as3_types.specs.declared.types.Signature.{Signature}
use Rattle.class_table.specs.Ids.{taken_by_each}
use Rattle.read_sources.specs.declared.file.ReadContent.{ReadContent}
use Rattle.read_sources.specs.declared.file.ReadContent.TheVariants as content
use Rattle.read_sources.specs.declared.file.ReadFile.{ReadFile}
use Rattle.read_sources.specs.Read.{AreRead}
use Rattle.named_sources.specs.Named.{items_in}

-- the members that the code of a file writes, in text order
abbrev pub members_read : ReadContent → List Member
members_read (content.Document d) = flat_map member_in (items_in d)
members_read (content.ClassFile parsed) = map member_of parsed.file.class.members.items

module _ (classes : List NamedClass) where
  -- what the first constructor among members takes and gives
  abbrev pub taken : NamedClass → List Member → Option types.Signature
  taken here members = option_map (signature_of classes here) (constructor_in here members)

  abbrev pub constructor_seen : NamedClass → ReadContent → Option types.Signature
  constructor_seen here content = taken here (members_read content)

  -- of each class, among all classes
  abbrev pub constructors_read : List NamedClass → List ReadFile → List (Option types.Signature)
  constructors_read (here ∷ others) (f ∷ files) = constructor_seen here f.content ∷ constructors_read others files
  constructors_read _ _ = []

-- what the constructors of these classes take in each source set of these files
abbrev pub AreConstructors : List NamedClass → List ReadFile → List (Option Signature) → Type 0
AreConstructors classes files constructors =
    (s : SourceFiles) → AreRead s.readers files s.files → taken_by_each constructors ≡ constructor_list s classes
