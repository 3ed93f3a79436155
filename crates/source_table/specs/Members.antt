-- The members of the classes of read files.
use Rattle.std.specs.Prelude.{◌≡◌, List, [], ◌∷◌, ◌++◌, map, Bool, Option}
use Rattle.std.specs.List.{flat_map}
use Rattle.mxml_tree.specs.Tree.{NoNode}
use Rattle.mxml_tree.specs.declared.tree.Node as row
use Rattle.mxml_tree.specs.declared.tree.NodeKind.{NodeKind}
use Rattle.mxml_tree.specs.declared.tree.NodeKind.TheVariants as kind
use Rattle.as3_parser.specs.declared.tree.Metadata.{Metadata}
use Rattle.source_sites.specs.declared.names.NamedClass.{NamedClass}
use Rattle.source_sites.specs.declared.source.ParsedClass.{ParsedClass}
use Rattle.source_sites.specs.Functions.{is_bindable, member_in}
use Rattle.source_sites.specs.Members.{Owned, for_each, ids_on, members_of_file, owned_members}
use Rattle.source_sites.specs.Scripts.{holder}
use Rattle.source_sites.specs.Sources.{SourceFiles}
use Rattle.source_sites.specs.Syntax.{Item, Member}
use Rattle.source_sites.specs.Trees.{tags_of}
use Rattle.source_sites.specs.Types as types
use Rattle.as3_types.specs.declared.table.OwnMember.{OwnMember}
use Rattle.as3_types.specs.declared.types.Signature.{Signature}
use Rattle.as3_types.specs.Identifiers.{is_identifier}
use Rattle.as3_types.specs.Tables.{owned_of}
use Rattle.class_table.specs.declared.scope.ClassCode.{ClassCode}
use Rattle.class_table.specs.Ids.{taken_by_each}
use Rattle.member_checks.specs.AllReaders.{KnowsIdentifiers}
use Rattle.read_sources.specs.declared.file.ReadContent.{ReadContent}
use Rattle.read_sources.specs.declared.file.ReadContent.TheVariants as content
use Rattle.read_sources.specs.declared.file.ReadDocument.{ReadDocument}
use Rattle.read_sources.specs.declared.file.ReadFile.{ReadFile}
use Rattle.read_sources.specs.Read.{AreRead}
use Rattle.source_table.specs.Constructors.{members_read}
use Rattle.source_table.specs.Events.{tags_read}

abbrev pub has_bindable : Metadata → Bool
has_bindable metadata = is_bindable (tags_of metadata)

-- whether the metadata of a document make the variables of its class bindable
abbrev pub is_bindable_class : List Metadata → Bool
is_bindable_class metadata = is_bindable (flat_map tags_of metadata)

-- what these members, and these items of scripts, add
module _ (code : ClassCode) where
  abbrev pub members_added : List Member → List Owned
  members_added members = owned_members code.classes.now code.here.now code.bindable members

  abbrev pub items_added : List Item → List Owned
  items_added items = members_added (flat_map member_in items)

module _ (classes : List NamedClass) where
  -- the members that the code of a file declares
  abbrev pub code_seen : NamedClass → ReadContent → List Owned
  code_seen here content = owned_members classes here (is_bindable (tags_read content)) (members_read content)

  abbrev pub parsed_seen : NamedClass → ParsedClass → List Owned
  parsed_seen here parsed = code_seen here (content.ClassFile parsed)

module _ (classes : List NamedClass) (constructors : List (Option types.Signature)) where
  -- what the ids on an element make, wherever it stands and whatever stands in it
  abbrev pub ids_of_kind : NodeKind → List Owned
  ids_of_kind (kind.Element tag) = ids_on classes constructors is_identifier (holder 0 tag NoNode)
  ids_of_kind (kind.Characters characters) = []

  abbrev pub ids_of_row : row.Node → List Owned
  ids_of_row r = ids_of_kind r.kind

  abbrev pub ids_in_rows : List row.Node → List Owned
  ids_in_rows rows = flat_map ids_of_row rows

  -- in a document the first node is the root, on which an id makes no member
  abbrev pub ids_in_tree : List row.Node → List Owned
  ids_in_tree [] = []
  ids_in_tree (root ∷ rows) = ids_in_rows rows

  abbrev pub document_seen : NamedClass → ReadDocument → List Owned
  document_seen here d = code_seen classes here (content.Document d) ++ ids_in_tree d.tree

  abbrev pub members_seen : NamedClass → ReadContent → List Owned
  members_seen here (content.Document d) = document_seen here d
  members_seen here (content.ClassFile parsed) = parsed_seen classes here parsed

  abbrev pub members_by_content : List NamedClass → List ReadFile → List (List Owned)
  members_by_content (here ∷ others) (f ∷ files) = members_seen here f.content ∷ members_by_content others files
  members_by_content _ _ = []

-- the members of these classes in each source set of these files whose readers know identifiers
abbrev pub AreMembers : List NamedClass → List (Option Signature) → List ReadFile → List (List OwnMember) → Type 0
AreMembers classes constructors files members =
    (s : SourceFiles) → KnowsIdentifiers s.readers → AreRead s.readers files s.files
    → map (map owned_of) members ≡ for_each (members_of_file s classes (taken_by_each constructors)) classes s.files
