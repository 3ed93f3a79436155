-- Which source set files are by their paths and bytes, and the first broken rule of their reading.
use Rattle.std.specs.Prelude.{◌≡◌, ◌⊎◌, ℕ, List, [], ◌∷◌, map, Bool, true, false, Option, None, Some, IsUtf8}
use Rattle.std.specs.Str.{IsValidUpTo}
use Rattle.mxml_tree.specs.Faults.{fault}
use Rattle.mxml_tree.specs.IsTree.{IsFirstFault, IsTree}
use Rattle.mxml_tree.specs.Tree.{Elem}
use Rattle.mxml_tree.specs.declared.fault.TreeCode.{TreeCode}
use Rattle.mxml_tree.specs.declared.fault.TreeCode.TheVariants as tree
use Rattle.as3_parser.specs.declared.start.Start.TheVariants as start
use Rattle.source_sites.specs.declared.code.Code.{Code}
use Rattle.source_sites.specs.declared.code.Code.TheVariants as code
use Rattle.source_sites.specs.declared.site.Site.{Site}
use Rattle.source_sites.specs.declared.source.ParsedClass.{ParsedClass}
use Rattle.source_sites.specs.Members.{table}
use Rattle.source_sites.specs.Paths.{is_document_path}
use Rattle.source_sites.specs.Sites.{first_broken}
use Rattle.source_sites.specs.Sources.{Content, SourceFile, SourceFiles}
use Rattle.source_sites.specs.Syntax.{ClassFile}
use Rattle.source_sites.specs.Texts.{Text}
use Rattle.source_sites.specs.Trees.{class_file_of}
use Rattle.class_sites.specs.Phases.{phase_1, sites_in}
use Rattle.read_sources.specs.declared.file.ReadFile.{ReadFile}
use Rattle.read_sources.specs.Read.{AreRead}
use Rattle.source_reading.specs.ClassTexts.{IsParsedIn}
use Rattle.source_reading.specs.CodeTexts.{IsCodeFault}
use Rattle.source_reading.specs.ParsedReaders.{AreParsed}

-- the code of a fault of a document
abbrev pub code_of_tree : TreeCode → Code
code_of_tree tree.NotUtf8 = code.NotUtf8
code_of_tree tree.Doctype = code.Doctype
code_of_tree tree.NotAnItem = code.NotAnItem
code_of_tree tree.TextOutside = code.TextOutside
code_of_tree tree.TooDeep = code.TooDeep
code_of_tree tree.DuplicateAttribute = code.DuplicateAttribute
code_of_tree tree.UnknownPrefix = code.UnknownPrefix
code_of_tree tree.WrongEnd = code.WrongEnd
code_of_tree tree.Unclosed = code.Unclosed
code_of_tree tree.NoRoot = code.NoRoot

-- the first fault of a document
pub record IsTreeFault (bytes : List ℕ) (at : ℕ) (c : Code) : Type 0 where
  pub written : TreeCode
  pub first : IsFirstFault (fault at written) bytes
  pub is : c ≡ code_of_tree written

-- a class file, and its first fault: where it isn't UTF-8, else that of its code
pub record IsClassText (bytes : List ℕ) (file : ClassFile) : Type 0 where
  pub utf8 : IsUtf8 bytes
  pub parsed : ParsedClass
  pub tree : IsParsedIn bytes parsed
  pub is : file ≡ class_file_of parsed

abbrev pub IsClassFault : List ℕ → ℕ → Code → Type 0
IsClassFault bytes at c = ((c ≡ code.NotUtf8) × IsValidUpTo bytes at) ⊎ (IsUtf8 bytes × IsCodeFault start.ClassFile bytes c at)

-- what bytes are, as a document or as a class file
abbrev pub IsContentOf : Bool → List ℕ → Content → Type 0
IsContentOf true bytes (Content.Document root) = IsTree (Elem root.at root.tag root.nodes) bytes
IsContentOf true bytes (Content.Unread at c) = IsTreeFault bytes at c
IsContentOf true bytes (Content.Class_file file) = ⊥
IsContentOf false bytes (Content.Document root) = ⊥
IsContentOf false bytes (Content.Unread at c) = IsClassFault bytes at c
IsContentOf false bytes (Content.Class_file file) = IsClassText bytes file

abbrev pub AreContents : List SourceFile → Type 0
AreContents [] = Unit {0}
AreContents (f ∷ files) = IsContentOf (is_document_path f.path) f.bytes f.content × AreContents files

-- a path, and the bytes of the file
pub record Given : Type 0 where
  pub path : Text
  pub bytes : List ℕ

-- the source set of these files
pub record IsSetOf (given : List Given) (s : SourceFiles) : Type 0 where
  pub readers : AreParsed s.readers
  pub contents : AreContents s.files
  pub are : map (λ (f : SourceFile). record { path = f.path; bytes = f.bytes }) s.files ≡ given

-- the first broken rule of reading
abbrev pub first_unread : SourceFiles → Option Site
first_unread s = first_broken (sites_in s (table s) (phase_1 s (table s)))

abbrev pub AreReadFrom : List Given → List ReadFile → Type 0
AreReadFrom given files = (s : SourceFiles) → IsSetOf given s → (first_unread s ≡ None) × AreRead s.readers files s.files

abbrev pub IsUnreadSite : List Given → Site → Type 0
IsUnreadSite given site = (s : SourceFiles) → IsSetOf given s → first_unread s ≡ Some site
