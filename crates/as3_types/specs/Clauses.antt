-- What calls find of the classes that the code keeps.
use Rattle.std.specs.Prelude.{◌≡◌, ℕ, List, [], ◌∷◌, Option, Bool}
use Rattle.as3_parser.specs.declared.tree.Lexeme.{Lexeme}
use Rattle.as3_parser.specs.declared.tree.Parameter as p
use Rattle.as3_parser.specs.declared.tree.ResultType as r
use Rattle.flex_world.specs.declared.kind.Class.{Class}
use Rattle.source_sites.specs.declared.site.Site.{Site}
use Rattle.source_sites.specs.declared.source.ParsedClass.{ParsedClass}
use Rattle.source_sites.specs.declared.names.NamedClass.{NamedClass}
use Rattle.source_sites.specs.Functions as functions
use Rattle.source_sites.specs.LookUps as look_ups
use Rattle.source_sites.specs.Members.{Found, Owned, signature_of}
use Rattle.source_sites.specs.Sites.{first_site}
use Rattle.source_sites.specs.Syntax.{TypedName}
use Rattle.source_sites.specs.Texts.{Text}
use Rattle.source_sites.specs.Trees.{class_file_of}
use Rattle.class_sites.specs.ClassSites.{class_file_sites, root_sites, wrong_package, wrong_root}
use Rattle.as3_types.specs.declared.meaning.Meaning.{Meaning}
use Rattle.as3_types.specs.declared.table.ClassTable.{ClassTable}
use Rattle.as3_types.specs.declared.types.Signature.{Signature}
use Rattle.as3_types.specs.Meanings.{meaning_of}
use Rattle.as3_types.specs.Tables.{table_of}
use Rattle.as3_types.specs.Types.{function_of, signature_as}

-- the first broken rule of a package, a root, a document's class and the class of a class file
abbrev pub package_site : ℕ → NamedClass → ParsedClass → Option Site
package_site file here parsed = first_site file (wrong_package here (class_file_of parsed) ∷ [])

module _ (classes : List NamedClass) (bases : List (Option Class)) (file : ℕ) where
  abbrev pub wrong_root_site : ℕ → Meaning → Option Site
  wrong_root_site at base = first_site file (wrong_root classes bases at (meaning_of base) ∷ [])

  abbrev pub root_site : NamedClass → ℕ → Meaning → Option Site
  root_site here at base = first_site file (root_sites classes bases file here at (meaning_of base))

  abbrev pub class_file_site : NamedClass → ParsedClass → Meaning → Option Site
  class_file_site here parsed base = first_site file (class_file_sites classes bases file here (class_file_of parsed) (meaning_of base))

-- the member of a name that a class declares itself, and that which it has
module _ (table : ClassTable) (class : Class) (name : Text) where
  abbrev pub own_named : Option Owned
  own_named = look_ups.member_named name (look_ups.own_members (table_of table) class)

  abbrev pub member_found : Option Found
  member_found = look_ups.member_of (table_of table) class name

-- what a function takes and gives, whatever its local variables are
abbrev pub IsSignature : List NamedClass → NamedClass → Lexeme → List p.Parameter → Option r.ResultType → Signature → Type 0
IsSignature classes here name parameters given s = (locals : List TypedName) → signature_as s ≡ signature_of classes here (function_of name parameters given locals)

-- a function of this name is a constructor, whatever it takes and gives
abbrev pub NamesConstructor : NamedClass → Lexeme → Bool → Type 0
NamesConstructor here name b =
    (parameters : List p.Parameter) (given : Option r.ResultType) (locals : List TypedName) → b ≡ functions.is_constructor here (function_of name parameters given locals)
