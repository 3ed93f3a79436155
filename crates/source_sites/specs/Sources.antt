-- A source set, read: each file with its tree, and what the texts of code in documents read as.
use Rattle.std.specs.Prelude.{ℕ, List, Bool}
use Rattle.mxml_tree.specs.Tree.{Nodes}
use Rattle.mxml_tree.specs.declared.tree.Element.{Element}
use Rattle.source_sites.specs.declared.code.Code.{Code}
use Rattle.source_sites.specs.Texts.{Text}
use Rattle.source_sites.specs.Syntax.{TypedName, MetadataTag, Item, ClassFile}

-- what a text reads as: a tree, or its first fault and the place of it
pub data Reading (A : Type 0) : Type 0 where
  Reads : (tree : A) → Reading A
  Faults : (at : ℕ) (code : Code) → Reading A

-- an element of a document, where it begins, and what stands in it
pub record Holder : Type 0 where
  pub at : ℕ
  pub tag : Element
  pub nodes : Nodes

pub data Content : Type 0 where
  -- no tree of a document, or no class file; the place is one of the file
  Unread : (at : ℕ) (code : Code) → Content
  -- by its root
  Document : (root : Holder) → Content
  Class_file : (file : ClassFile) → Content

pub record SourceFile : Type 0 where
  -- as it is given, also with a leading `./`
  pub path : Text
  pub bytes : List ℕ
  pub content : Content

-- what each text reads as by the tokens and the productions of code; the places are those of the text
pub record Readers : Type 0 where
  -- one identifier, and no keyword
  pub is_identifier : Text → Bool
  -- of fx:Script
  pub members : Text → Reading (List Item)
  -- of fx:Metadata
  pub metadata : Text → Reading (List MetadataTag)
  -- of the attribute of an event: its local variables, in text order
  pub handler : Text → Reading (List TypedName)

-- the first file is the main one
pub record SourceFiles : Type 0 where
  pub files : List SourceFile
  pub readers : Readers
