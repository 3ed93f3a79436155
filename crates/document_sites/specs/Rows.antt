-- What small source sets are told.
use Rattle.std.specs.Prelude.{◌≡◌, ℕ, ◌+◌, length, List, [], ◌∷◌, map, true, Option, Some, None, option_map, codes}
use Rattle.as3_parser.specs.declared.tree.Lexeme.{Lexeme}
use Rattle.as3_parser.specs.declared.tree.Modifier.{Modifier}
use Rattle.as3_parser.specs.declared.tree.Modifier.TheVariants as modifier
use Rattle.component_catalog.specs.Classes.{spark}
use Rattle.mxml_tree.specs.Tree.{Node, Elem, Chars, Nodes, NoNode, MoreNode}
use Rattle.mxml_tree.specs.declared.tree.Attribute.{Attribute}
use Rattle.mxml_tree.specs.declared.tree.Element.{Element}
use Rattle.source_sites.specs.declared.code.Code.{Code}
use Rattle.source_sites.specs.declared.code.Code.TheVariants as code
use Rattle.source_sites.specs.Texts.{Text}
use Rattle.source_sites.specs.Syntax.{ResultType, Declares, Member, Item}
use Rattle.source_sites.specs.Sources.{Reading, Content, SourceFile, Readers, SourceFiles}
use Rattle.source_sites.specs.Scripts.{holder, language_space}
use Rattle.document_sites.specs.Faults.{first_fault}

-- the first fault, by the number of the file, the place and the code
abbrev pub IsTold : SourceFiles → ℕ → ℕ → Code → Type 0
IsTold s file at code = first_fault s ≡ Some (record { file = file; at = at; code = code })

abbrev pub word : ℕ → Text → Lexeme
word at text = record { span = record { start = at; end = at + length text }; text = text }

abbrev pub attribute : ℕ → Text → Text → Attribute
attribute at local value = record { at = at; space = []; local = local; value = value }

abbrev pub tag : Text → Text → List Attribute → Element
tag space local attributes = record { end = 0; space = space; local = local; attributes = attributes }

abbrev pub nodes : List Node → Nodes
nodes [] = NoNode
nodes (n ∷ ns) = MoreNode n (nodes ns)

-- `<s:NAME ..>`
abbrev pub component : ℕ → Text → List Attribute → List Node → Node
component at local attributes inside = Elem at (tag spark local attributes) (nodes inside)

-- an fx:Script of characters that stand in the file as they are
abbrev pub script : ℕ → Text → Node
script at text = Elem at (tag language_space (codes "Script") []) (MoreNode (Chars (at + 11) (record { text = text; span = Some (at + 11, at + 11 + length text) })) NoNode)

-- each script reads as these items, and each handler isn't read
abbrev pub reading : List Item → Readers
reading items =
    record {
      is_identifier = λ text. true;
      members = λ text. Reading.Reads items;
      metadata = λ text. Reading.Reads [];
      handler = λ text. Reading.Faults 3 code.Syntax;
    }

-- a document whose root is of this class
abbrev pub document : Text → Text → List Attribute → List Node → SourceFile
document path root attributes inside = record { path = path; bytes = []; content = Content.Document (holder 0 (tag spark root attributes) (nodes inside)) }

-- Main.mxml, with the root s:Application
abbrev pub main : List Node → SourceFile
main inside = document (codes "Main.mxml") (codes "Application") [] inside

-- `package PATH { public class NAME extends BASE { MEMBERS } }` in a file, the class name at 20
abbrev pub class_file : Text → List Text → Text → Option Text → List Member → SourceFile
class_file path package_names name base members =
    record {
      path = path;
      bytes = [];
      content =
          Content.Class_file
          (record {
            package_at = 0;
            package_name = elim package_names [ [] ↦ None | first ∷ others ↦ Some (map (word 8) (first ∷ others)) ];
            imports = [];
            class_at = 10;
            metadata = [];
            modifiers = modifier.Public ∷ [];
            name = word 20 name;
            base = option_map (λ b. word 40 b ∷ []) base;
            members = members;
          });
    }

abbrev pub sources : List SourceFile → List Item → SourceFiles
sources files items = record { files = files; readers = reading items }

-- `public var NAME:TYPE;`, the name 11 bytes behind its beginning
abbrev pub variable : ℕ → Text → Text → Member
variable at name type =
    record {
      at = at;
      metadata = [];
      modifiers = modifier.Public ∷ [];
      declares = Declares.Variables (record { name = word (at + 11) name; type_name = word (at + 20) type ∷ [] } ∷ []);
    }

abbrev pub with_words : List Modifier → Member → Member
with_words modifiers m = record m { modifiers = modifiers }

-- `public override function NAME():void {}`, the name 25 bytes behind its beginning
abbrev pub method : ℕ → List Modifier → Text → Member
method at modifiers name =
    record {
      at = at;
      metadata = [];
      modifiers = modifiers;
      declares = Declares.Method (record { name = word (at + 25) name; parameters = []; result = ResultType.Void_result; locals = [] });
    }

-- `<s:Application ..></s:Application>` has no fault
abbrev pub SmallestIsRight : Type 0
SmallestIsRight = first_fault (sources (main [] ∷ []) []) ≡ None

-- a file whose name has no right end, before the fault of the file behind it
abbrev pub PathIsTold : Type 0
PathIsTold = IsTold (sources (main [] ∷ class_file (codes "A.txt") [] (codes "A") None [] ∷ record { path = codes "B.as"; bytes = []; content = Content.Unread 4 code.BadToken } ∷ []) []) 1 0 code.BadPath

-- a document that isn't read, before all faults of classes
abbrev pub ReadingIsToldFirst : Type 0
ReadingIsToldFirst =
    IsTold (sources (document (codes "Main.mxml") (codes "Group") [] [] ∷ record { path = codes "B.mxml"; bytes = []; content = Content.Unread 17 code.WrongEnd } ∷ []) []) 1 17 code.WrongEnd

-- a package that isn't the folder, at the word `package`, before the name of the class
abbrev pub PackageIsTold : Type 0
PackageIsTold = IsTold (sources (main [] ∷ class_file (codes "model/A.as") [] (codes "B") None [] ∷ []) []) 1 0 code.WrongClassName

-- a catalog name in the unnamed package
abbrev pub CatalogNameIsTold : Type 0
CatalogNameIsTold = IsTold (sources (main [] ∷ class_file (codes "Label.as") [] (codes "Label") None [] ∷ []) []) 1 20 code.DuplicateClass

-- a base that is no class, and one that is a document
abbrev pub UnknownBaseIsTold : Type 0
UnknownBaseIsTold = IsTold (sources (main [] ∷ class_file (codes "A.as") [] (codes "A") (Some (codes "B")) [] ∷ []) []) 1 40 code.UnknownClass

abbrev pub DocumentBaseIsTold : Type 0
DocumentBaseIsTold = IsTold (sources (main [] ∷ class_file (codes "A.as") [] (codes "A") (Some (codes "Main")) [] ∷ []) []) 1 40 code.WrongBase

-- two classes that extend each other, at the name of the earlier
abbrev pub CycleIsTold : Type 0
CycleIsTold =
    IsTold (sources (main [] ∷ class_file (codes "A.as") [] (codes "A") (Some (codes "B")) [] ∷ class_file (codes "B.as") [] (codes "B") (Some (codes "A")) [] ∷ []) []) 1 20 code.BaseCycle

-- the main document isn't an Application, at its root
abbrev pub MainIsTold : Type 0
MainIsTold = IsTold (sources (document (codes "Main.mxml") (codes "Group") [] [] ∷ []) []) 0 0 code.NotApplication

-- the base of a later file, before the members of an earlier
abbrev pub ClassesAreToldFirst : Type 0
ClassesAreToldFirst =
    IsTold (sources (main (component 100 (codes "Foo") [] [] ∷ []) ∷ class_file (codes "A.as") [] (codes "A") (Some (codes "B")) [] ∷ []) []) 1 40 code.UnknownClass

-- a member without an access word, at its beginning, behind the type that it names
abbrev pub WordsAreTold : Type 0
WordsAreTold = IsTold (sources (main [] ∷ class_file (codes "A.as") [] (codes "A") None (with_words [] (variable 50 (codes "n") (codes "int")) ∷ []) ∷ []) []) 1 50 code.WrongModifiers

abbrev pub TypeIsToldFirst : Type 0
TypeIsToldFirst = IsTold (sources (main [] ∷ class_file (codes "A.as") [] (codes "A") None (with_words [] (variable 50 (codes "n") (codes "Nothing")) ∷ []) ∷ []) []) 1 70 code.UnknownType

-- a private member of a base makes the name taken
abbrev pub TakenNameIsTold : Type 0
TakenNameIsTold =
    IsTold
    (sources
    (main []
    ∷ class_file (codes "A.as") [] (codes "A") None (with_words (modifier.Private ∷ []) (variable 50 (codes "n") (codes "int")) ∷ [])
    ∷ class_file (codes "B.as") [] (codes "B") (Some (codes "A")) (variable 50 (codes "n") (codes "int") ∷ [])
    ∷ [])
    [])
    2 61 code.DuplicateMember

-- an override of nothing, and one of a method of the catalog
abbrev pub OverrideIsTold : Type 0
OverrideIsTold =
    IsTold (sources (main [] ∷ class_file (codes "A.as") [] (codes "A") None (method 50 (modifier.Public ∷ modifier.Override ∷ []) (codes "f") ∷ []) ∷ []) []) 1 75 code.WrongOverride

abbrev pub NativeOverrideIsRight : Type 0
NativeOverrideIsRight =
    first_fault
    (sources
    (main []
    ∷ class_file (codes "A.as") [] (codes "A") (Some (codes "Group")) (method 50 (modifier.Override ∷ modifier.Public ∷ []) (codes "removeAllElements") ∷ [])
    ∷ [])
    [])
    ≡ None

-- an id that the class of the document has from its bases, at the attribute
abbrev pub TakenIdIsTold : Type 0
TakenIdIsTold = IsTold (sources (main (component 100 (codes "Label") (attribute 109 (codes "id") (codes "visible") ∷ []) [] ∷ []) ∷ []) []) 0 109 code.DuplicateMember

-- code in a script, at its exact place, before the faults of what follows
abbrev pub ScriptIsTold : Type 0
ScriptIsTold =
    IsTold
    (sources (main (script 100 (codes "public var n:Nothing;") ∷ component 150 (codes "Foo") [] [] ∷ []) ∷ []) (Item.Declares_member (variable 0 (codes "n") (codes "Nothing")) ∷ []))
    0 131 code.UnknownType

-- a fault in a tag before that of the tag
abbrev pub InnerTagIsToldFirst : Type 0
InnerTagIsToldFirst = IsTold (sources (main (component 100 (codes "Foo") [] (component 107 (codes "Bar") [] [] ∷ []) ∷ []) ∷ []) []) 0 107 code.UnknownTag

-- a text that is no int, a property that can't be set, a name that is none, a handler that isn't read: each at the attribute
abbrev pub LiteralIsTold : Type 0
LiteralIsTold = IsTold (sources (main (component 100 (codes "Label") (attribute 109 (codes "x") (codes "ten") ∷ []) [] ∷ []) ∷ []) []) 0 109 code.BadLiteral

abbrev pub ReadOnlyIsTold : Type 0
ReadOnlyIsTold = IsTold (sources (main (component 100 (codes "Group") (attribute 109 (codes "numElements") (codes "1") ∷ []) [] ∷ []) ∷ []) []) 0 109 code.ReadOnly

abbrev pub AttributeIsTold : Type 0
AttributeIsTold = IsTold (sources (main (component 100 (codes "Label") (attribute 109 (codes "colour") (codes "red") ∷ []) [] ∷ []) ∷ []) []) 0 109 code.UnknownAttribute

abbrev pub HandlerIsTold : Type 0
HandlerIsTold = IsTold (sources (main (component 100 (codes "Button") (attribute 110 (codes "click") (codes "f(") ∷ []) [] ∷ []) ∷ []) []) 0 110 code.Syntax

-- a visual child of what is no container
abbrev pub PlaceIsTold : Type 0
PlaceIsTold = IsTold (sources (main (component 100 (codes "Label") [] (component 109 (codes "Label") [] [] ∷ []) ∷ []) ∷ []) []) 0 109 code.WrongPlace
