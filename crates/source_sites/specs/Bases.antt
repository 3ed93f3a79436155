-- The bases of classes, and which types go into which.
use Rattle.std.specs.Prelude.{List, [], ◌∷◌, ◌+◌, length, Bool, true, false, Option, Some, None}
use Rattle.std.specs.List.{list_any}
use Rattle.as3_parser.specs.declared.tree.Lexeme.{Lexeme}
use Rattle.flex_world.specs.Classes.{same_class, base_in, upward_in, descends}
use Rattle.flex_world.specs.declared.kind.Class.{Class}
use Rattle.source_sites.specs.Types.{ValueType}
use Rattle.source_sites.specs.Sources.{Content, SourceFile}
use Rattle.source_sites.specs.declared.names.NamedClass.{NamedClass}
use Rattle.source_sites.specs.Names.{Meaning, No_class, path_names, class_at, class_of_tag}

module _ (names : List NamedClass) where
  abbrev pub written_base : NamedClass → Option (List Lexeme) → Meaning
  written_base here None = No_class
  written_base here (Some path) = class_at names here (path_names path)

  -- what the root of a document, or the base of a class file, names
  abbrev pub base_meaning : NamedClass → Content → Meaning
  base_meaning here (Content.Unread at code) = No_class
  base_meaning here (Content.Document root) = class_of_tag names root.tag
  base_meaning here (Content.Class_file file) = written_base here file.base

  abbrev pub base_meanings : List NamedClass → List SourceFile → List Meaning
  base_meanings (here ∷ others) (f ∷ files) = base_meaning here f.content ∷ base_meanings others files
  base_meanings _ _ = []

-- the bases of the source classes, each at the number of its class
module _ (bases : List (Option Class)) where
  -- a class is its own ancestor
  abbrev pub is_in_ring : Class → Bool
  is_in_ring class = list_any (same_class class) (upward_in bases (length bases + 4) (base_in bases class))

  abbrev pub takes_null : ValueType → Bool
  takes_null ValueType.Nothing = true
  takes_null ValueType.String = true
  takes_null ValueType.Array = true
  takes_null (ValueType.Object class) = true
  takes_null ValueType.Unknown = true
  takes_null _ = false

  -- a value of the first type goes into the second; where a type isn't known, another site fails
  abbrev pub goes_into : ValueType → ValueType → Bool
  goes_into ValueType.Unknown u = true
  goes_into ValueType.Any u = true
  goes_into ValueType.Nothing u = takes_null u
  goes_into t ValueType.Unknown = true
  goes_into ValueType.Int ValueType.Int = true
  goes_into ValueType.Boolean ValueType.Boolean = true
  goes_into ValueType.String ValueType.String = true
  goes_into ValueType.Array ValueType.Array = true
  goes_into (ValueType.Object class) (ValueType.Object ancestor) = descends bases class ancestor
  goes_into _ _ = false
