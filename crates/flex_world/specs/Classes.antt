-- Classes with their ancestors, and the types of places.
use Rattle.std.specs.List.{list_any}
use Rattle.std.specs.Prelude.{Bool, List, None, Option, Some, [], false, length, option_and_then, option_map, slice_get, suc, unwrap_or, zero, ℕ, ◌+◌, ◌==◌, ◌||◌, ◌∷◌}
use Rattle.std.specs.Str.{bytes_eq}
use Rattle.component_catalog.specs.Classes.{base_of, lineage, name_of}
use Rattle.component_catalog.specs.declared.class.NativeClass.{NativeClass}
use Rattle.component_catalog.specs.declared.class.NativeClass.TheVariants as native
use Rattle.component_catalog.specs.declared.value.ValueType.{ValueType}
use Rattle.component_catalog.specs.declared.value.ValueType.TheVariants as kind
use Rattle.flex_world.specs.declared.kind.Class.{Class}
use Rattle.flex_world.specs.declared.kind.StaticType.{StaticType}

-- a type of the catalog
abbrev pub static_type : ValueType → StaticType
static_type kind.Int = StaticType.Int
static_type kind.Boolean = StaticType.Boolean
static_type kind.String = StaticType.String
static_type (kind.Object class) = StaticType.Object (Class.Native class)
static_type kind.Any = StaticType.Any

-- no two classes of the catalog have one name
abbrev pub same_native : NativeClass → NativeClass → Bool
same_native a b = bytes_eq (name_of a) (name_of b)

abbrev pub same_class : Class → Class → Bool
same_class (Class.Native a) (Class.Native b) = same_native a b
same_class (Class.File a) (Class.File b) = a == b
same_class _ _ = false

-- a class of the catalog is another one or extends it
abbrev pub native_descends : NativeClass → NativeClass → Bool
native_descends class ancestor = list_any (same_native ancestor) (lineage class)

-- where each class of the file has this base, or none
module _ (bases : List (Option Class)) where
  abbrev pub base_in : Class → Option Class
  base_in (Class.Native class) = option_map Class.Native (base_of class)
  base_in (Class.File k) = option_and_then (λ base. base) (slice_get bases k)

  -- a class, its base, that one's base, and so on; at most so many
  abbrev pub upward_in : ℕ → Option Class → List Class
  upward_in zero class = []
  upward_in (suc n) None = []
  upward_in (suc n) (Some class) = class ∷ upward_in n (base_in class)

  -- a class and its ancestors, the nearest first: where the bases make no ring, there are no more than the file has classes, and four of the catalog
  abbrev pub lineage_in : Class → List Class
  lineage_in class = upward_in (length bases + 4) (Some class)

  abbrev pub descends : Class → Class → Bool
  descends class ancestor = list_any (same_class ancestor) (lineage_in class)

  abbrev pub descends_from : NativeClass → Class → Bool
  descends_from ancestor class = descends class (Class.Native ancestor)

  abbrev pub is_component : Class → Bool
  is_component = descends_from native.UIComponent

  abbrev pub is_event : Class → Bool
  is_event = descends_from native.Event

  abbrev pub is_container : Class → Bool
  is_container class = descends_from native.SkinnableContainer class || descends_from native.Group class

  -- an object of this class is of the other, if it has one at all
  abbrev pub is_instance_of : NativeClass → Option Class → Bool
  is_instance_of ancestor class = unwrap_or (option_map (descends_from ancestor) class) false
