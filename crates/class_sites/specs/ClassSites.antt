-- Phase 2: the names and bases of classes.
use Rattle.std.specs.Prelude.{ℕ, List, [], ◌∷◌, take, length, Bool, true, false, not, ◌&&◌, ◌||◌, ◌==◌, Option, Some, None, slice_get, option_map, unwrap_or, bytes_eq}
use Rattle.as3_parser.specs.declared.tree.Lexeme.{Lexeme}
use Rattle.component_catalog.specs.declared.class.NativeClass.TheVariants as native
use Rattle.flex_world.specs.Classes.{is_component, descends_from}
use Rattle.flex_world.specs.declared.kind.Class.{Class}
use Rattle.flex_world.specs.declared.kind.Class.TheVariants as Class
use Rattle.source_sites.specs.declared.code.Code.TheVariants as code
use Rattle.flex_base.specs.Events.{path_text}
use Rattle.source_sites.specs.Texts.{Text}
use Rattle.source_sites.specs.Syntax.{ClassFile}
use Rattle.source_sites.specs.Sites.{Rule, rule}
use Rattle.source_sites.specs.Sources.{Content}
use Rattle.source_sites.specs.declared.names.NamedClass.{NamedClass}
use Rattle.source_sites.specs.Names.{Meaning, path_names, path_at, is_class, is_taken, catalog_class, catalog_class_in}
use Rattle.source_sites.specs.Bases.{base_meaning, is_in_ring}

abbrev pub package_text : Option (List Lexeme) → Text
package_text None = []
package_text (Some path) = path_text (path_names path)

-- among the classes of the files, in their order
module _ (names : List NamedClass) where
  abbrev pub is_document_class : Class → Bool
  is_document_class (Class.Native class) = false
  is_document_class (Class.File k) = unwrap_or (option_map (λ (c : NamedClass). c.is_document) (slice_get names k)) false

  -- State may not be extended, and neither may an MXML document; what is no class is another rule's fault
  abbrev pub may_be_extended : Meaning → Bool
  may_be_extended Meaning.No_class = true
  may_be_extended Meaning.State = false
  may_be_extended (Meaning.Means class) = not (is_document_class class)

  -- a root is a component, too
  abbrev pub may_be_root : List (Option Class) → Meaning → Bool
  may_be_root bases Meaning.No_class = true
  may_be_root bases Meaning.State = false
  may_be_root bases (Meaning.Means class) = not (is_document_class class) && is_component bases class

  -- the full name stands for no earlier file, is not that of a catalog class, and is no catalog name in the unnamed package
  abbrev pub has_own_name : ℕ → NamedClass → Bool
  has_own_name k here =
      not (is_taken here.folder here.name (take k names))
      && not (is_class (catalog_class_in here.folder here.name))
      && not (length here.folder == 0 && is_class (catalog_class here.name))

  -- at the root of a document, and at the class name of a class file
  abbrev pub duplicate_class : ℕ → NamedClass → ℕ → Rule
  duplicate_class k here at = rule at code.DuplicateClass (has_own_name k here)

  -- at the root
  abbrev pub wrong_root : List (Option Class) → ℕ → Meaning → Rule
  wrong_root bases at base = rule at code.WrongBase (may_be_root bases base)

  -- at the base
  abbrev pub wrong_base : ℕ → Meaning → Rule
  wrong_base at base = rule at code.WrongBase (may_be_extended base)

module _ (bases : List (Option Class)) where
  -- the class of file k is none of its own ancestors; at the root of a document, and at the class name of a class file
  abbrev pub base_cycle : ℕ → ℕ → Rule
  base_cycle k at = rule at code.BaseCycle (not (is_in_ring bases (Class.File k)))

  -- the root of the main document, which is file 0, is an Application; at the root
  abbrev pub not_application : ℕ → ℕ → Rule
  not_application k at = rule at code.NotApplication (not (k == 0) || descends_from bases native.Application (Class.File k))

-- at the root of a document, and at the base of a class file
abbrev pub unknown_base : ℕ → Meaning → Rule
unknown_base at base = rule at code.UnknownClass (is_class base)

-- at the word `package`
abbrev pub wrong_package : NamedClass → ClassFile → Rule
wrong_package here file = rule file.package_at code.WrongClassName (bytes_eq (package_text file.package_name) here.folder)

-- at the class name
abbrev pub wrong_class_name : NamedClass → ClassFile → Rule
wrong_class_name here file = rule file.name.span.start code.WrongClassName (bytes_eq file.name.text here.name)

-- none where there is no base
abbrev pub base_sites : List NamedClass → Option (List Lexeme) → Meaning → List Rule
base_sites names None base = []
base_sites names (Some path) base = unknown_base (path_at path) base ∷ wrong_base names (path_at path) base ∷ []

-- the classes of the files and their bases, and the class of a file with its number
module _ (names : List NamedClass) (bases : List (Option Class)) (k : ℕ) (here : NamedClass) where
  -- in a document all rules stand at the root, so their order is that of the table
  abbrev pub root_sites : ℕ → Meaning → List Rule
  root_sites at base =
      duplicate_class names k here at ∷ unknown_base at base ∷ wrong_root names bases at base ∷ base_cycle bases k at ∷ not_application bases k at ∷ []

  -- in text order: the word `package`, then the class name, then the base; at the name in the order of the table
  abbrev pub class_file_sites : ClassFile → Meaning → List Rule
  class_file_sites file base =
      wrong_package here file
      ∷ wrong_class_name here file
      ∷ duplicate_class names k here file.name.span.start
      ∷ base_cycle bases k file.name.span.start
      ∷ base_sites names file.base base

  abbrev pub class_sites : Content → List Rule
  class_sites (Content.Unread at code) = []
  class_sites (Content.Document root) = root_sites root.at (base_meaning names here (Content.Document root))
  class_sites (Content.Class_file file) = class_file_sites file (base_meaning names here (Content.Class_file file))
