-- In which source sets the files that the code keeps stand.
use Rattle.std.specs.Prelude.{◌≡◌, ℕ, List, [], ◌∷◌, map}
use Rattle.mxml_tree.specs.Tree.{Elem, NoNode, table_of}
use Rattle.mxml_tree.specs.declared.tree.Node as row
use Rattle.mxml_tree.specs.declared.tree.NodeKind.{NodeKind}
use Rattle.mxml_tree.specs.declared.tree.NodeKind.TheVariants as kind
use Rattle.as3_parser.specs.declared.tree.Members.{Members}
use Rattle.as3_parser.specs.declared.tree.Metadata.{Metadata}
use Rattle.source_sites.specs.declared.code.Code.TheVariants as code
use Rattle.source_sites.specs.Syntax.{Item, MetadataTag}
use Rattle.source_sites.specs.Sources.{Reading, Content, SourceFile, Readers, Holder}
use Rattle.source_sites.specs.Paths.{is_document_path, path_parts}
use Rattle.source_sites.specs.Scripts.{holder, scripts_in, metadata_in, code_text}
use Rattle.source_sites.specs.Trees.{class_file_of, items_of, tags_of}
use Rattle.read_sources.specs.declared.file.ReadDocument.{ReadDocument}
use Rattle.read_sources.specs.declared.file.ReadContent.{ReadContent}
use Rattle.read_sources.specs.declared.file.ReadContent.TheVariants as content
use Rattle.read_sources.specs.declared.file.ReadFile.{ReadFile}

abbrev pub script_read : Members → Reading (List Item)
script_read m = Reading.Reads (items_of m)

abbrev pub metadata_read : Metadata → Reading (List MetadataTag)
metadata_read m = Reading.Reads (tags_of m)

-- where texts of code read as the readers say
module _ (readers : Readers) where
  -- a document with this root: its table of nodes, and what its code reads as
  pub record IsDocument (d : ReadDocument) (root : Holder) : Type 0 where
    pub tree : d.tree ≡ table_of (Elem root.at root.tag root.nodes)
    pub scripts : map (λ (h : Holder). readers.members (code_text h.nodes)) (scripts_in root.nodes) ≡ map script_read d.scripts
    pub metadata : map (λ (h : Holder). readers.metadata (code_text h.nodes)) (metadata_in root.nodes) ≡ map metadata_read d.metadata

  abbrev pub IsReadAs : ReadContent → Content → Type 0
  IsReadAs (content.Document d) (Content.Document root) = IsDocument d root
  IsReadAs (content.ClassFile parsed) (Content.Class_file file) = file ≡ class_file_of parsed
  IsReadAs _ _ = ⊥

  -- a file of the set, by its path and what it reads as
  pub record IsRead (r : ReadFile) (f : SourceFile) : Type 0 where
    pub names : r.path.names ≡ path_parts f.path
    pub is_document : r.path.is_document ≡ is_document_path f.path
    pub content : IsReadAs r.content f.content

  -- file by file
  abbrev pub AreRead : List ReadFile → List SourceFile → Type 0
  AreRead [] [] = Unit {0}
  AreRead (r ∷ rs) (f ∷ fs) = IsRead r f × AreRead rs fs
  AreRead _ _ = ⊥

-- what the rules of classes see of a content: of a document its root alone
abbrev pub root_seen : ℕ → NodeKind → Content
root_seen at (kind.Element tag) = Content.Document (holder at tag NoNode)
root_seen at (kind.Characters characters) = Content.Unread at code.NoRoot

abbrev pub tree_seen : List row.Node → Content
tree_seen [] = Content.Unread 0 code.NoRoot
tree_seen (r ∷ rows) = root_seen r.at r.kind

abbrev pub content_seen : ReadContent → Content
content_seen (content.Document d) = tree_seen d.tree
content_seen (content.ClassFile parsed) = Content.Class_file (class_file_of parsed)
