-- What the rules of members see of code: names, types and words, with their places. A place is a byte of the code's own text.
use Rattle.std.specs.Prelude.{ℕ, List, Option}
use Rattle.as3_parser.specs.declared.tree.Lexeme.{Lexeme}
use Rattle.as3_parser.specs.declared.tree.MetadataArgument.{MetadataArgument}
use Rattle.as3_parser.specs.declared.tree.Modifier.{Modifier}
use Rattle.source_sites.specs.declared.names.Import.{Import}

-- a variable or a parameter: its name and its type, names with dots between them
pub record TypedName : Type 0 where
  pub name : Lexeme
  pub type_name : List Lexeme

pub data ResultType : Type 0 where
  No_result : ResultType
  Void_result : ResultType
  Gives : (type_name : List Lexeme) → ResultType

pub record Function : Type 0 where
  pub name : Lexeme
  pub parameters : List TypedName
  pub result : ResultType
  -- the local variables of its body, in text order
  pub locals : List TypedName

pub data Declares : Type 0 where
  Variables : (variables : List TypedName) → Declares
  Method : (function : Function) → Declares

-- `[name(arguments)]`; without brackets there are no arguments
pub record MetadataTag : Type 0 where
  pub at : ℕ
  pub name : List ℕ
  pub arguments : List MetadataArgument

pub record Member : Type 0 where
  -- its first token, its metadata included
  pub at : ℕ
  pub metadata : List MetadataTag
  pub modifiers : List Modifier
  pub declares : Declares

-- what stands in fx:Script
pub data Item : Type 0 where
  Imports : (import : Import) → Item
  Declares_member : (member : Member) → Item

pub record ClassFile : Type 0 where
  -- the word `package`
  pub package_at : ℕ
  -- none for the unnamed package
  pub package_name : Option (List Lexeme)
  pub imports : List Import
  -- the first token of the class, its metadata and modifiers included
  pub class_at : ℕ
  pub metadata : List MetadataTag
  pub modifiers : List Modifier
  pub name : Lexeme
  pub base : Option (List Lexeme)
  pub members : List Member
