-- The names of classes: what a name, a path or a tag means.
use Rattle.std.specs.Prelude.{ℕ, suc, List, [], ◌∷◌, map, Bool, true, false, ◌&&◌, nat_lt, length, if◌then◌else◌, Option, Some, None, bytes_eq, codes}
use Rattle.std.specs.List.{list_any, flat_map}
use Rattle.component_catalog.specs.declared.class.NativeClass.{NativeClass}
use Rattle.component_catalog.specs.declared.class.NativeClass.TheVariants as native
use Rattle.component_catalog.specs.Classes as catalog
use Rattle.component_catalog.specs.Classes.{class_named, spark}
use Rattle.flex_world.specs.declared.kind.Class.{Class}
use Rattle.flex_world.specs.declared.kind.Class.TheVariants as Class
use Rattle.mxml_tree.specs.declared.tree.Element.{Element}
use Rattle.as3_parser.specs.declared.tree.Lexeme.{Lexeme}
use Rattle.flex_base.specs.Events.{path_text}
use Rattle.source_sites.specs.Texts.{Text, among, ends_with, cut_end, without_last, last_name}
use Rattle.source_sites.specs.declared.names.Import.{Import}
use Rattle.source_sites.specs.declared.names.NamedClass.{NamedClass}
use Rattle.source_sites.specs.Syntax.{Item}
use Rattle.source_sites.specs.Sources.{Reading, Content, SourceFile, Readers, SourceFiles, Holder}
use Rattle.source_sites.specs.Paths.{package_of, class_name_of, is_document_path}
use Rattle.source_sites.specs.Scripts.{scripts_in, code_text}

-- a path of names in code: its names, and its place
abbrev pub path_names : List Lexeme → List Text
path_names path = map (λ (l : Lexeme). l.text) path

abbrev pub path_at : List Lexeme → ℕ
path_at [] = 0
path_at (l ∷ path) = l.span.start

abbrev pub star : Text
star = codes "*"

-- what a name means
pub data Meaning : Type 0 where
  No_class : Meaning
  -- the class of view states, which is no type and no class in code
  State : Meaning
  Means : (class : Class) → Meaning

abbrev pub class_of : Meaning → Option Class
class_of (Means class) = Some class
class_of _ = None

abbrev pub or_means : Meaning → Meaning → Meaning
or_means No_class other = other
or_means State other = State
or_means (Means class) other = Means class

abbrev pub is_class : Meaning → Bool
is_class No_class = false
is_class _ = true

abbrev pub items_read : Reading (List Item) → List Item
items_read (Reading.Reads items) = items
items_read (Reading.Faults at code) = []

abbrev pub import_in : Item → List Import
import_in (Item.Imports i) = i ∷ []
import_in (Item.Declares_member member) = []

module _ (readers : Readers) where
  abbrev pub script_items : Holder → List Item
  script_items h = items_read (readers.members (code_text h.nodes))

  abbrev pub imports_of : Content → List Import
  imports_of (Content.Unread at code) = []
  imports_of (Content.Document root) = flat_map import_in (flat_map script_items (scripts_in root.nodes))
  imports_of (Content.Class_file file) = file.imports

  abbrev pub named_class : SourceFile → NamedClass
  named_class f =
      record {
        folder = package_of f.path;
        name = class_name_of f.path;
        is_document = is_document_path f.path;
        imports = imports_of f.content;
      }

abbrev pub named_classes : SourceFiles → List NamedClass
named_classes s = map (named_class s.readers) s.files

abbrev pub is_named : Text → Text → NamedClass → Bool
is_named folder name class = bytes_eq class.name name && bytes_eq class.folder folder

-- the number of the first that passes a test, counted from a number on
abbrev pub number_of : {A : Type 0} → (A → Bool) → ℕ → List A → Option ℕ
number_of test n [] = None
number_of test n (x ∷ xs) = if test x then Some n else number_of test (suc n) xs

abbrev pub as_source : Option ℕ → Meaning
as_source None = No_class
as_source (Some k) = Means (Class.File k)

abbrev pub as_native : Option NativeClass → Meaning
as_native None = No_class
as_native (Some native.State) = State
as_native (Some class) = Means (Class.Native class)

-- a class of the catalog by its name, and by its package too
abbrev pub catalog_class : Text → Meaning
catalog_class name = as_native (class_named name)

abbrev pub catalog_class_in : Text → Text → Meaning
catalog_class_in folder name = as_native (catalog.class_in folder name)

module _ (names : List NamedClass) where
  abbrev pub source_class : Text → Text → Meaning
  source_class folder name = as_source (number_of (is_named folder name) 0 names)

  -- a class by its full name: the first source of that name, else one of the catalog
  abbrev pub class_in : Text → Text → Meaning
  class_in folder name = or_means (source_class folder name) (catalog_class_in folder name)

  -- what a name means by one import: where its last name is a star or this name; a star before that imports nothing
  abbrev pub imported : Text → List Text → Meaning
  imported name [] = No_class
  imported name (first ∷ path) =
      if among star (without_last (first ∷ path)) then No_class
      else if bytes_eq (last_name (first ∷ path)) star then class_in (path_text (without_last (first ∷ path))) name
      else if bytes_eq (last_name (first ∷ path)) name then class_in (path_text (without_last (first ∷ path))) name
      else No_class

  abbrev pub imported_by : Text → List Import → Meaning
  imported_by name [] = No_class
  imported_by name (i ∷ imports) = or_means (imported name i.names) (imported_by name imports)

  -- a bare name: in the own package, then by the imports in text order, then in the catalog
  abbrev pub bare_class : NamedClass → Text → Meaning
  bare_class here name = or_means (class_in here.folder name) (or_means (imported_by name here.imports) (catalog_class name))

  -- names in the code of a class; a dotted path names a class directly
  abbrev pub class_at : NamedClass → List Text → Meaning
  class_at here [] = No_class
  class_at here (name ∷ []) = bare_class here name
  class_at here (name ∷ other ∷ names) = class_in (path_text (without_last (name ∷ other ∷ names))) (last_name (name ∷ other ∷ names))

  -- a tag, by its namespace: those of spark, of the unnamed package, or of a package
  abbrev pub class_of_tag : Element → Meaning
  class_of_tag tag =
      if bytes_eq tag.space spark then catalog_class tag.local
      else if bytes_eq tag.space star then source_class [] tag.local
      else if ends_with (codes ".*") tag.space && nat_lt 2 (length tag.space) then class_in (cut_end 2 tag.space) tag.local
      else No_class

-- whether a class of this full name stands before the file
abbrev pub is_taken : Text → Text → List NamedClass → Bool
is_taken folder name earlier = list_any (is_named folder name) earlier
